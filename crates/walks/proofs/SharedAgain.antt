-- A `&κ mut [T]` that a walk lends as `&` for a lifetime κ' of a call, and has back as it was. Assumes `Logic`.
--     LentShared      what the holder keeps meanwhile: the lender's part at κ', and its own borrow at κ, open, with
--                     both halves of its ghost variable
--     lends_shared    own (the `&κ mut [T]` ((b, o), γ, ys)) ∗ [κ]_q ∗ tokens
--                         ⊢ ⇛ own (the `&κ' [T]` ((b, o), ys)) ∗ LentShared ∗ tokens
--     shared_back     [†κ'] ∗ LentShared ⊢ ⇛ (own (the `&κ mut [T]` ((b, o), γ, ys)) ∗ [κ]_q)
use mathlib.Core.Path.{refl}
use Prim.Native.Nat.{ℕ}
use mathlib.Core.List.{List, [], ◌∷◌}
use lib.ListN.{length}
use seplogic.Ra.Ura.{Ura}
use base.Fraction.{full_share}
use mir.Syntax.{Lifetime}
use mir.Val.{Val}
use base.Logic.{ent, sep}
use base.Stored.{Gv}
use base.Fml.{Lft, GName, Share, Fml, fsep, flft, fdead, fobs, fauth, flent, fobor, Incl}
use ghost.Rules.{Toks, span}
use types.Logic.{Logic, sem, lfts}
use types.Kit.{‵, raw, ◌⊛◌, later, ◌$◌, ◌∵◌, !, qed, move, use2, drop, split, join, fsplit, fjoin, feq_i}
use types.Kit.{await, updating, now as at_once, done}
use types.Share.{arr_parts}
use types.Tokens.{lent_back}
use denote.RattleType.{RattleType}
use denote.Shadow.{pure_l, pure_i}
use denote.Memory.{shares, shared_of}
use denote.Shares.{SharesAsFrom}
use denote.Ref.{Bor, MutBor}
use denote.Slice.{slice_val, MutSlice, ShrSlice, heres, Room, mut_slice_at, coded_holeys}
use denote.Lend.{Held, lends_shr_slice}
use denote.Index.{opens_slice, closes_slice}

module _ (R : RattleType) (κ κ' : Lft) (q : Share) (γ : GName) (b o : ℕ) where
  abbrev at-list : GName → List R.Denot → MutBor (List R.Denot)
  at-list δ ys = record { ref_ptr = (b, o); ghost_name = δ; now = ys }

  -- the lender's part, and what the ghost variable has
  abbrev lender : List R.Denot → Fml
  lender ys = flent κ' ((arr_parts (shares R) (length ys)).part full_share ys b o)

  abbrev code_of : List R.Denot → Gv
  code_of ys = (coded_holeys R).code (heres R ys)

  abbrev pub LentShared : List R.Denot → Fml
  LentShared ys =
      fsep (lender ys) (fsep (fobor κ q (Held R (length ys) b o γ)) (fsep (fobs γ (code_of ys)) (fauth γ (code_of ys))))

  module _ {M : Type 1} {𝓤 : Ura M} (𝓛 : Logic 𝓤) (ℓ ℓ' : Lifetime)
      (ys : List R.Denot) where
    open 𝓛 use {H, A}

    -- the slice that is lent
    abbrev lent : Bor (List R.Denot)
    lent = record { ref_ptr = (b, o); now = ys }

    abbrev vals : List Val
    vals = slice_val (b, o) (length ys) ∷ []

    -- with tokens at which the type is shared, which come back
    pub lends_shared : (κ₁ : Lft) → SharesAsFrom 𝓛 full_share R (shared_of R) κ₁ → (ts : Toks) → Incl (span ts) κ₁
        → Incl (span ts) κ'
        → ent 𝓤 (sep 𝓤 (sep 𝓤 (sem 𝓛 ((MutSlice ℓ κ R).own_val (at-list γ ys) vals)) (A.lft κ q)) (lfts 𝓛 ts))
        (H.⇛ (sep 𝓤 (sep 𝓤 (sem 𝓛 ((ShrSlice ℓ' κ' R).own_val lent vals)) (sem 𝓛 (LentShared ys))) (lfts 𝓛 ts)))
    lends_shared κ₁ s ts inc sp =
        qed 𝓛 ((‵ ((MutSlice ℓ κ R).own_val (at-list γ ys) vals) ⊛ ‵ (flft κ q)) ∷ raw (lfts 𝓛 ts) ∷ []) ∵ updating ! $
        split ! $ fsplit ! $
        pure_l ! (mut_slice_at R (at-list γ ys) vals) (λ p. fsplit ! $ opens_slice ! tt R ys b o $
        feq_i ! ℕ (length ys) (length ys) refl $ fjoin ! $ move ! (0 ∷ 4 ∷ []) $
        use2 𝓛
        (later ((‵ ((ShrSlice ℓ' κ' R).own_val lent vals) ⊛ ‵ (lender ys)) ⊛ raw (lfts 𝓛 ts)))
        (lends_shr_slice 𝓛 R ℓ' κ' full_share ys b o p.1 κ₁ s ts inc sp) $ await ! tt $ split ! $ split ! $
        -- [the new slice; the lender's part at κ'; the tokens; the open borrow at κ; both halves]
        move ! (4 ∷ 5 ∷ []) $ fjoin ! $ move ! (4 ∷ 0 ∷ []) $ fjoin ! $ move ! (2 ∷ 0 ∷ []) $ fjoin ! $
        move ! (1 ∷ 0 ∷ []) $ join ! $ at_once ! $ done !)

    pub shared_back : Room R (length ys) → ent 𝓤 (sep 𝓤 (A.dead κ') (sem 𝓛 (LentShared ys)))
        (H.⇛ (sep 𝓤 (sem 𝓛 ((MutSlice ℓ κ R).own_val (at-list γ ys) vals)) (A.lft κ q)))
    shared_back room =
        qed 𝓛 (‵ (fdead κ') ∷ ‵ (LentShared ys) ∷ []) ∵ updating ! $ move ! (1 ∷ []) $ fsplit ! $ move ! (2 ∷ 0 ∷ []) $
        lent_back ! tt $ fsplit ! $ drop ! $
        -- [the row; the open borrow and the ghost variable]
        move ! (1 ∷ []) $ fsplit ! $ move ! (1 ∷ []) $ fsplit ! $ move ! (3 ∷ 2 ∷ 0 ∷ 1 ∷ []) $
        closes_slice ! tt R ys ys refl b o $ at_once ! $
        fjoin ! $ pure_i ! (mut_slice_at R (at-list γ ys) vals) (tt, (tt, tt)) (refl, room) $ fjoin ! $ done !

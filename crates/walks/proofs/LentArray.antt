-- A local array that a walk lends as a `&mut [T]`, or as a `&[T]`, for a lifetime κ' of a call, and has back.
-- Assumes `Logic`.
--     lends-array         the local's cell ⊢ ⇛ ∃ δ. own (the `&κ' mut [T]` ((l, 0), δ, xs)) ∗ the lender's part
--     array_back          [†κ'] ∗ the lender's part ∗ finally δ zs ⊢ ⇛ ∃ v. own zs v ∗ the local's cell, at v
--     lent_out, brought-home    both as steps of a walk, with a lifetime that begins and ends there
--     lends-shared-array  the local's cell ⊢ ⇛ ∃ δ. own (the `&κ' [T]` ((l, 0), δ, xs)) ∗ the lender's part
--     shared-array-back   [†κ'] ∗ the lender's part ⊢ ⇛ ∃ v. own xs v ∗ the local's cell, at v
use mathlib.Core.Path.{◌≡◌, refl, ◌∙◌}
use Prim.Native.Nat.{ℕ}
use mathlib.Core.List.{List, [], ◌∷◌, map}
use lib.ListN.{length}
use seplogic.Ra.Ura.{Ura}
use base.Fraction.{full_share}
use mir.Syntax.{Ty, Lifetime, ty_array}
use mir.Val.{Val}
use base.Logic.{SProp, ent, sep, ex}
use base.Fml.{Lft, GName, fsep, fat, fdead, flft, flent, Incl}
use ghost.Rules.{Toks, span}
use types.Logic.{Logic, sem, lfts}
use types.Kit.{‵, raw, ◌⊛◌, some, later, ◌$◌, ◌∵◌, !, qed, move, use1, use2, use3, drop, split, pick, rewrite, fsplit}
use types.Kit.{fjoin, fpick, fpack, feq_l, feq_i, await, updating, now as at_once, show, done}
use types.Kit.{Item, Goal, Soaks, Seq}
use types.Tokens.{lft_new, lft_end, lent_back}
use types.SemTy.{cells, Arr}
use types.Share.{arr_parts}
use denote.RattleType.{RattleType}
use denote.Laws.{Is, Tells, Makes, shows}
use denote.Memory.{cell_at, part_at, lone, mem, shares, part_of, shared_of}
use denote.Shares.{SharesAsFrom}
use denote.Array.{Array, array_val, Array-Tells, Array-Makes}
use denote.ArrayMemory.{Single, Array-apart, Array-whole}
use denote.Slice.{slice_val, MutSlice, Room, finally}
use denote.Lend.{Held, Lent, lends_slice, slice_back, LentShrs, lends_shr_slice}
use denote.Index.{row, whole_out, whole_in}
use denote.Steps.{owned, facts, peeks}

module _ {M : Type 1} {𝓤 : Ura M} (𝓛 : Logic 𝓤) (R : RattleType) (one : Single R.mir)
    (mk : Makes 𝓛 R (Is R)) (n : ℕ) (l : ℕ) where
  open 𝓛 use {H, A}

  abbrev array_ty : Ty
  array_ty = ty_array (lone R.mir) n

  lies : (xs : List R.Denot) (v : Val) → Is (Array R n) xs (v ∷ [])
      → ent 𝓤 (H.at full_share array_ty l 0 v) (sem 𝓛 (part_at (Array R n) full_share xs l 0))
  unfolding part_of
  lies xs v is =
      qed 𝓛 (‵ (fat full_share array_ty l 0 v) ∷ []) ∵
      use1 𝓛 (‵ (cell_at full_share (array_ty ∷ []) (v ∷ []) l 0)) (𝓛.laws.at_raw full_share array_ty l 0 v) $
      owned ! (Array R n) (Is (Array R n)) (Array-Makes 𝓛 R mk n) xs (v ∷ []) is $ move ! (1 ∷ 0 ∷ []) $ fjoin ! $
      fpack ! (List Val) (λ vs. fsep (cell_at full_share (Array R n).mir vs l 0) ((Array R n).own_val xs vs)) (v ∷ []) $
      done !

  pub lends_array : (ℓ : Lifetime) (κ' : Lft) (xs : List R.Denot) (v : Val) → Is (Array R n) xs (v ∷ [])
      → Room R (length xs)
      → ent 𝓤 (H.at full_share array_ty l 0 v) (H.⇛ (ex 𝓤 (Lent 𝓛 R ℓ κ' xs l 0)))
  lends_array ℓ κ' xs v is room =
      qed 𝓛 (‵ (fat full_share array_ty l 0 v) ∷ []) ∵ updating ! $
      use1 𝓛 (‵ (part_at (Array R n) full_share xs l 0)) (lies xs v is) $
      use1 𝓛 (‵ ((arr_parts (shares R) n).part full_share xs l 0)) (Array-apart 𝓛 R full_share one n xs l 0) $
      fsplit ! $ drop ! $ use1 𝓛 (‵ (cells (mem R) xs l 0)) (whole_in 𝓛 R xs l 0) $
      use1 𝓛 (later (some (λ (δ : GName). raw (Lent 𝓛 R ℓ κ' xs l 0 δ))))
      (lends_slice 𝓛 R ℓ κ' xs l 0 room) $ await ! tt $ pick ! (λ δ.
      at_once ! $ show ! (Lent 𝓛 R ℓ κ' xs l 0) δ $ done !)

  -- with tokens at which the type is shared, which come back
  pub lends_shared-array : (ℓ : Lifetime) (κ' : Lft) (xs : List R.Denot) (v : Val) → Is (Array R n) xs (v ∷ [])
      → Room R (length xs) → (κ : Lft) → SharesAsFrom 𝓛 full_share R (shared_of R) κ → (ts : Toks)
      → Incl (span ts) κ → Incl (span ts) κ'
      → ent 𝓤 (sep 𝓤 (H.at full_share array_ty l 0 v) (lfts 𝓛 ts))
      (H.⇛ (sep 𝓤 (LentShrs 𝓛 R ℓ κ' full_share xs l 0) (lfts 𝓛 ts)))
  lends_shared-array ℓ κ' xs v is room κ s ts inc sp =
      qed 𝓛 (‵ (fat full_share array_ty l 0 v) ∷ raw (lfts 𝓛 ts) ∷ []) ∵ updating ! $
      use1 𝓛 (‵ (part_at (Array R n) full_share xs l 0)) (lies xs v is) $
      use1 𝓛 (‵ ((arr_parts (shares R) n).part full_share xs l 0)) (Array-apart 𝓛 R full_share one n xs l 0) $
      fsplit ! $ drop ! $ feq_i ! ℕ (length xs) (length xs) refl $ fjoin ! $
      use2 𝓛 (later (raw (LentShrs 𝓛 R ℓ κ' full_share xs l 0) ⊛ raw (lfts 𝓛 ts)))
      (lends_shr_slice 𝓛 R ℓ κ' full_share xs l 0 room κ s ts inc sp) $ await ! tt $ at_once ! $ done !

  module _ (val : R.Denot → Val) (tl : Tells R (Is R) (λ x. val x ∷ [])) where
    abbrev value : List R.Denot → Val
    value zs = array_val (map val zs)

    spelled : (zs : List R.Denot) (vs : List Val) → Is (Array R n) zs vs → vs ≡ value zs ∷ []
    spelled zs vs is = Array-Tells R (λ x. val x ∷ []) tl n zs vs is

    abbrev pub Back : List R.Denot → Val → SProp 𝓤
    Back zs v = sep 𝓤 (sem 𝓛 ((Array R n).own_val zs (v ∷ []))) (H.at full_share array_ty l 0 v)

    -- the array in memory is the local's cell
    stands : (zs : List R.Denot) → ent 𝓤 (sem 𝓛 (part_at (Array R n) full_share zs l 0)) (ex 𝓤 (Back zs))
    unfolding part_of
    stands zs =
        qed 𝓛 (‵ (part_at (Array R n) full_share zs l 0) ∷ []) ∵ fpick ! (λ vs. fsplit ! $ move ! (1 ∷ []) $
        peeks ! (Array R n) (Is (Array R n)) (shows 𝓛 (Array R n)) zs vs (λ is.
        rewrite ! 0 (λ (us : List Val). ‵ ((Array R n).own_val zs us)) (spelled zs vs is) refl $
        rewrite ! 1 (λ (us : List Val). ‵ (cell_at full_share (Array R n).mir us l 0)) (spelled zs vs is) refl $
        move ! (1 ∷ []) $
        use1 𝓛 (‵ (fat full_share array_ty l 0 (value zs))) (𝓛.laws.raw_at full_share array_ty l 0 (value zs)) $
        show ! (Back zs) (value zs) $ move ! (1 ∷ 0 ∷ []) $ done !))

    pub array_back : (κ' : Lft) (δ : GName) (zs : List R.Denot) (m : ℕ) → m ≡ n
        → ent 𝓤 (sep 𝓤 (A.dead κ') (sep 𝓤 (A.lent κ' (Held R m l 0 δ)) (sem 𝓛 (finally R δ zs))))
        (H.⇛ (ex 𝓤 (Back zs)))
    array_back κ' δ zs m e =
        qed 𝓛 (‵ (fdead κ') ∷ ‵ (flent κ' (Held R m l 0 δ)) ∷ ‵ (finally R δ zs) ∷ []) ∵ updating ! $
        use3 𝓛 (later (‵ ((Arr (mem R) m).own_at zs l 0))) (slice_back 𝓛 R κ' δ zs m l 0) $ await ! tt $ fsplit ! $
        feq_l ! (λ len. use1 𝓛 (‵ (row R full_share zs l 0)) (whole_out 𝓛 R zs l 0) $
        feq_i ! ℕ (length zs) n (len ∙ e) $ fjoin ! $
        use1 𝓛 (‵ (part_at (Array R n) full_share zs l 0)) (Array-whole 𝓛 R full_share n zs l 0) $
        use1 𝓛 (some (λ (v : Val). raw (Back zs v))) (stands zs) $ pick ! (λ v.
        at_once ! $ show ! (Back zs) v $ done !))

    pub shared-array-back : (κ' : Lft) (xs : List R.Denot) → length xs ≡ n
        → ent 𝓤 (sep 𝓤 (A.dead κ') (A.lent κ' ((arr_parts (shares R) (length xs)).part full_share xs l 0)))
        (H.⇛ (ex 𝓤 (Back xs)))
    shared-array-back κ' xs e =
        qed 𝓛 (‵ (fdead κ') ∷ ‵ (flent κ' ((arr_parts (shares R) (length xs)).part full_share xs l 0)) ∷ []) ∵
        updating ! $ lent_back ! tt $ fsplit ! $ drop ! $ feq_i ! ℕ (length xs) n e $ fjoin ! $
        use1 𝓛 (‵ (part_at (Array R n) full_share xs l 0)) (Array-whole 𝓛 R full_share n xs l 0) $
        use1 𝓛 (some (λ (v : Val). raw (Back xs v))) (stands xs) $ pick ! (λ v.
        at_once ! $ show ! (Back xs) v $ done !)

module _ {M : Type 1} {𝓤 : Ura M} {𝓛 : Logic 𝓤} {K : Type 0} {Γ : List (Item 𝓤)}
    {G : Goal 𝓤 𝓛.H} where
  pub lent_out : K → Soaks G → (R : RattleType) → Single R.mir → Makes 𝓛 R (Is R) → (n l : ℕ) (ℓ : Lifetime)
      (xs : List R.Denot) (v : Val) → Is (Array R n) xs (v ∷ []) → Room R (length xs)
      → ((ν : ℕ) (δ : GName) → Seq K 𝓛
      (‵ ((MutSlice ℓ (ν ∷ []) R).own_val (record { ref_ptr = (l, 0); ghost_name = δ; now = xs })
      (slice_val (l, 0) (length xs) ∷ []))
      ∷ ‵ (flent (ν ∷ []) (Held R (length xs) l 0 δ)) ∷ ‵ (flft (ν ∷ []) full_share) ∷ Γ) G)
      → Seq K 𝓛 (‵ (fat full_share (ty_array (lone R.mir) n) l 0 v) ∷ Γ) G
  lent_out t z R one mk n l ℓ xs v is room k =
      lft_new t z (λ ν. move t (1 ∷ []) $
      use1 𝓛
      (later (some (λ (δ : GName).
      ‵ ((MutSlice ℓ (ν ∷ []) R).own_val (record { ref_ptr = (l, 0); ghost_name = δ; now = xs })
      (slice_val (l, 0) (length xs) ∷ []))
      ⊛ ‵ (flent (ν ∷ []) (Held R (length xs) l 0 δ)))))
      (lends_array 𝓛 R one mk n l ℓ (ν ∷ []) xs v is room) $ await t z $ pick t (λ δ. split t $ k ν δ))

  pub brought_home : K → Soaks G → (R : RattleType) → Single R.mir → Makes 𝓛 R (Is R) → (n l : ℕ)
      (val : R.Denot → Val) → Tells R (Is R) (λ x. val x ∷ []) → (ν : ℕ) (δ : GName) (zs : List R.Denot) (m : ℕ)
      → m ≡ n
      → ((v : Val) → Is (Array R n) zs (v ∷ [])
      → Seq K 𝓛 (‵ (fat full_share (ty_array (lone R.mir) n) l 0 v) ∷ Γ) G)
      → Seq K 𝓛
      (‵ (flft (ν ∷ []) full_share) ∷ ‵ (flent (ν ∷ []) (Held R m l 0 δ)) ∷ ‵ (finally R δ zs) ∷ Γ) G
  brought_home t z R one mk n l val tl ν δ zs m e k =
      lft_end t z $
      use3 𝓛
      (later (some (λ (v : Val).
      ‵ ((Array R n).own_val zs (v ∷ [])) ⊛ ‵ (fat full_share (ty_array (lone R.mir) n) l 0 v))))
      (array_back 𝓛 R one mk n l val tl (ν ∷ []) δ zs m e) $ await t z $ pick t (λ v. split t $
      facts t (Array R n) (Is (Array R n)) (shows 𝓛 (Array R n)) zs (v ∷ []) (λ is. k v is))

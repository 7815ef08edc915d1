-- A local array that a walk takes apart into its elements, and puts together again. Assumes `Logic`.
--     array_parts    the local's cell, at a value of the list xs ⊢ xs has n elements ∗ the row of xs
--     array-cell     the row of zs, of n elements ⊢ ∃ v. own zs v ∗ the local's cell, at v
--     taken-apart, put-together    both as steps of a walk
use mathlib.Core.Path.{◌≡◌, refl}
use Prim.Native.Nat.{ℕ}
use mathlib.Core.List.{List, [], ◌∷◌, map}
use lib.ListN.{length}
use seplogic.Ra.Ura.{Ura}
use base.Fraction.{full_share}
use mir.Syntax.{Ty, ty_array}
use mir.Val.{Val}
use base.Logic.{SProp, ent, sep, ex}
use base.Fml.{Fml, fsep, fat}
use types.Logic.{Logic, sem}
use types.Kit.{Item, Goal, Seq, ‵, ◌⊛◌, some, ◌$◌, ◌∵◌, !, qed, move, use1, split, pick, rewrite, fsplit, fjoin}
use types.Kit.{fpick, fpack, feq_l, feq_i, show, done}
use types.Share.{arr_parts}
use denote.RattleType.{RattleType}
use denote.Laws.{Is, Tells, Makes, shows}
use denote.Memory.{cell_at, part_at, lone, shares, part_of}
use denote.Array.{Array, array_val, Array-Tells, Array-Makes}
use denote.ArrayMemory.{Single, Array-apart, Array-whole}
use denote.Index.{row}
use denote.Steps.{owned, facts, peeks}

module _ {M : Type 1} {𝓤 : Ura M} (𝓛 : Logic 𝓤) (R : RattleType) (one : Single R.mir)
    (mk : Makes 𝓛 R (Is R)) (n : ℕ) (l : ℕ) where
  open 𝓛 use {H}

  abbrev array_ty : Ty
  array_ty = ty_array (lone R.mir) n

  abbrev Parts : List R.Denot → Fml
  Parts xs = (arr_parts (shares R) n).part full_share xs l 0

  array_parts : (xs : List R.Denot) (v : Val) → Is (Array R n) xs (v ∷ [])
      → ent 𝓤 (H.at full_share array_ty l 0 v) (sem 𝓛 (Parts xs))
  unfolding part_of
  array_parts xs v is =
      qed 𝓛 (‵ (fat full_share array_ty l 0 v) ∷ []) ∵
      use1 𝓛 (‵ (cell_at full_share (array_ty ∷ []) (v ∷ []) l 0)) (𝓛.laws.at_raw full_share array_ty l 0 v) $
      owned ! (Array R n) (Is (Array R n)) (Array-Makes 𝓛 R mk n) xs (v ∷ []) is $ move ! (1 ∷ 0 ∷ []) $ fjoin ! $
      fpack ! (List Val) (λ vs. fsep (cell_at full_share (Array R n).mir vs l 0) ((Array R n).own_val xs vs)) (v ∷ []) $
      use1 𝓛 (‵ (Parts xs)) (Array-apart 𝓛 R full_share one n xs l 0) $ done !

  module _ (val : R.Denot → Val) (tl : Tells R (Is R) (λ x. val x ∷ [])) where
    abbrev value : List R.Denot → Val
    value zs = array_val (map val zs)

    spelled : (zs : List R.Denot) (vs : List Val) → Is (Array R n) zs vs → vs ≡ value zs ∷ []
    spelled zs vs is = Array-Tells R (λ x. val x ∷ []) tl n zs vs is

    abbrev Back : List R.Denot → Val → SProp 𝓤
    Back zs v = sep 𝓤 (sem 𝓛 ((Array R n).own_val zs (v ∷ []))) (H.at full_share array_ty l 0 v)

    array_cell : (zs : List R.Denot) → length zs ≡ n
        → ent 𝓤 (sem 𝓛 (row R full_share zs l 0)) (ex 𝓤 (Back zs))
    unfolding part_of
    array_cell zs len =
        qed 𝓛 (‵ (row R full_share zs l 0) ∷ []) ∵ feq_i ! ℕ (length zs) n len $ fjoin ! $
        use1 𝓛 (‵ (part_at (Array R n) full_share zs l 0)) (Array-whole 𝓛 R full_share n zs l 0) $
        fpick ! (λ vs. fsplit ! $ move ! (1 ∷ []) $
        peeks ! (Array R n) (Is (Array R n)) (shows 𝓛 (Array R n)) zs vs (λ is.
        rewrite ! 0 (λ (us : List Val). ‵ ((Array R n).own_val zs us)) (spelled zs vs is) refl $
        rewrite ! 1 (λ (us : List Val). ‵ (cell_at full_share (Array R n).mir us l 0)) (spelled zs vs is) refl $
        move ! (1 ∷ []) $
        use1 𝓛 (‵ (fat full_share array_ty l 0 (value zs))) (𝓛.laws.raw_at full_share array_ty l 0 (value zs)) $
        show ! (Back zs) (value zs) $ move ! (1 ∷ 0 ∷ []) $ done !))

module _ {M : Type 1} {𝓤 : Ura M} {𝓛 : Logic 𝓤} {K : Type 0} {Γ : List (Item 𝓤)}
    {G : Goal 𝓤 𝓛.H} where
  pub taken-apart : K → (R : RattleType) → Single R.mir → Makes 𝓛 R (Is R) → (n l : ℕ) (xs : List R.Denot)
      (v : Val) → Is (Array R n) xs (v ∷ []) → (length xs ≡ n → Seq K 𝓛 (‵ (row R full_share xs l 0) ∷ Γ) G)
      → Seq K 𝓛 (‵ (fat full_share (ty_array (lone R.mir) n) l 0 v) ∷ Γ) G
  taken-apart t R one mk n l xs v is k =
      use1 𝓛 (‵ ((arr_parts (shares R) n).part full_share xs l 0)) (array_parts 𝓛 R one mk n l xs v is) $ fsplit t $
      feq_l t k

  pub put-together : K → (R : RattleType) → Single R.mir → Makes 𝓛 R (Is R) → (n l : ℕ)
      (val : R.Denot → Val) → Tells R (Is R) (λ x. val x ∷ []) → (zs : List R.Denot) → length zs ≡ n
      → ((v : Val) → Is (Array R n) zs (v ∷ [])
      → Seq K 𝓛 (‵ (fat full_share (ty_array (lone R.mir) n) l 0 v) ∷ Γ) G)
      → Seq K 𝓛 (‵ (row R full_share zs l 0) ∷ Γ) G
  put-together t R one mk n l val tl zs len k =
      use1 𝓛
      (some (λ (v : Val). ‵ ((Array R n).own_val zs (v ∷ [])) ⊛ ‵ (fat full_share (ty_array (lone R.mir) n) l 0 v)))
      (array_cell 𝓛 R one mk n l val tl zs len) $ pick t (λ v. split t $
      facts t (Array R n) (Is (Array R n)) (shows 𝓛 (Array R n)) zs (v ∷ []) (λ is. k v is))

-- An array filled by a function of each element of another, in a loop: what is stored so far, one more, and all.
-- Assumes nothing.
use Prim.Native.Nat.{ℕ, ◌+◌, ◌≤◌, ◌<◌}
use mathlib.Core.Path.{◌≡◌, sym, ◌∙◌}
use mathlib.Core.List.{List, [], map, append-nil}
use native.Mathlib.Omega.{arith}
use native.Mathlib.Numerals.{add-one}
use lib.ListN.{length, drop, set, get_or, length-map, length-set, drop_of_length-le}
use lib.Seq.{sets, sets-eq, drop-cons}

-- what f gives of the first i elements is stored: storing what it gives of the others gives all
pub record Stored {A B : Type 0} (f : A → B) (from : List A) (i : ℕ) (to : List B) : Type 0 where
  pub long : length to ≡ length from
  pub left : sets to i (map f (drop i from)) ≡ map f from

module _ {A B : Type 0} (f : A → B) (from : List A) where
  pub none_stored : (to : List B) → length to ≡ length from → Stored f from 0 to
  none_stored to h =
      let l = length-map from f in
      let new = map f from in
      let past : drop (length new) to ≡ [] = drop_of_length-le to {i = length new} (omega (arith, l)) in
      let z : 0 + length new ≡ length new = omega arith in
      record { long = h; left = sets-eq new to 0 (omega (arith, l)) ∙ rw (z, past) (append-nil new) }

  pub one-stored : {i : ℕ} {to : List B} (d : A) (x : B) → Stored f from i to → i < length from
      → x ≡ f (get_or from i d)
      → Stored f from (i + 1) (set to i x)
  one-stored {i} {to} d x s h e =
      record {
        long = length-set to i x ∙ s.long;
        left = next ∙ s.left;
      }
    where
      next : sets (set to i x) (i + 1) (map f (drop (i + 1) from)) ≡ sets to i (map f (drop i from))
      next = rw (e, add-one i, drop-cons from i d h)

  pub all-stored : {i : ℕ} {to : List B} → Stored f from i to → length from ≤ i → to ≡ map f from
  all-stored {i} {to} s h = sym first ∙ s.left
    where
      first : sets to i (map f (drop i from)) ≡ to
      first = rw (drop_of_length-le from h)

-- What is left of a list from a place on, and what stands before it: the laws that every loop here turns on. Assumes
-- nothing.
use Prim.Native.Nat.{ℕ, suc, ◌+◌, ◌-◌, ◌≤◌, ◌<◌}
use mathlib.Core.Path.{◌≡◌, sym, ap, ◌∙◌}
use mathlib.Core.List.{List, [], ◌∷◌, ◌++◌, map}
use native.Mathlib.Numerals.{add-one}
use native.Mathlib.Omega.{arith}
use lib.ListN.{length, get_or, take, drop, set, drop_of_length-le, length-take, length-map}
use lib.Seq.{drop-cons, get_or-take, take-suc, take-suc-set}

module _ {A : Type 0} (l : List A) (i : ℕ) where
  pub left_at : (d : A) → i < length l → drop i l ≡ get_or l i d ∷ drop (i + 1) l
  left_at d h = rw (add-one, drop-cons l i d)

  pub left_end : length l ≤ i → drop i l ≡ []
  left_end h = drop_of_length-le l h

-- of its first n
module _ {A : Type 0} (n : ℕ) (l : List A) (i : ℕ) where
  pub taken_at : (d : A) → i < n → i < length l → drop i (take n l) ≡ get_or l i d ∷ drop (i + 1) (take n l)
  taken_at d h k =
      let b : i < length (take n l) = omega (arith, length-take n l) in
      rw (add-one, drop-cons (take n l) i d b, get_or-take n l i d h)

  pub taken-end : n ≤ i → drop i (take n l) ≡ []
  taken-end h = left_end (take n l) i (omega (arith, length-take n l))

  pub taken-past : length l ≤ i → drop i (take n l) ≡ []
  taken-past h = left_end (take n l) i (omega (arith, length-take n l))

-- what stands before a place: by the last of it, and with what is stored at the place
module _ {A : Type 0} (l : List A) (i : ℕ) where
  pub taken-last : (d : A) → 0 < i → i ≤ length l → take i l ≡ take (i - 1) l ++ (get_or l (i - 1) d ∷ [])
  taken-last d h k =
      let s : i ≡ suc (i - 1) = omega arith in
      ap (λ (n : ℕ). take n l) s ∙ take-suc l (i - 1) d (omega arith)

  pub taken-stored : (a : A) → i < length l → take (i + 1) (set l i a) ≡ take i l ++ (a ∷ [])
  taken-stored a h = rw (add-one, take-suc-set l i a)

-- how many a struct's array of structs has, from what owning it tells
pub length_mapped : (X Y : Type 0) (f : X → Y) (l : List X) (n : ℕ) → length (map f l) ≡ n → length l ≡ n
length_mapped X Y f l n e = sym (length-map l f) ∙ e

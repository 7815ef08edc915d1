-- Sums of whole numbers over the beginnings of a list: one more, and never more than the whole list's. And what a
-- beginning that two lists share says of their lengths. Assumes nothing.
use Prim.Native.Nat.{ℕ, zero, suc, ◌+◌, ◌≤◌, ◌<◌}
use mathlib.Core.Path.{◌≡◌, refl, ap}
use mathlib.Core.List.{List, [], ◌∷◌}
use native.Mathlib.Omega.{arith}
use native.Mathlib.Nat.{le_of_suc-le-suc}
use native.Mathlib.Numerals.{add-one}
use lib.ListN.{length, get_or, take, length-take}
use Rattle.cut_division.specs.Total.{add_up, total}

module _ {A : Type 0} (f : A → ℕ) where
  one_from : (s : ℕ) (l : List A) (i : ℕ) (d : A) → i < length l
      → add_up ◌+◌ f s (take (suc i) l) ≡ add_up ◌+◌ f s (take i l) + f (get_or l i d)
  one_from s [] i d h = absurd (omega arith)
  one_from s (a ∷ l) zero d h = refl
  one_from s (a ∷ l) (suc i) d h = one_from (s + f a) l i d (le_of_suc-le-suc h)

  pub one_more : (l : List A) (i : ℕ) (d : A) → i < length l
      → total f (take (i + 1) l) ≡ total f (take i l) + f (get_or l i d)
  one_more l i d h = rw add-one (one_from 0 l i d h)

  start-le : (s : ℕ) (l : List A) → s ≤ add_up ◌+◌ f s l
  start-le s [] = omega arith
  start-le s (a ∷ l) = omega (arith, start-le (s + f a) l)

  beginning-from : (s m : ℕ) (l : List A) → add_up ◌+◌ f s (take m l) ≤ add_up ◌+◌ f s l
  beginning-from s zero l = start-le s l
  beginning-from s (suc m) [] = omega arith
  beginning-from s (suc m) (a ∷ l) = beginning-from (s + f a) m l

  pub beginning-le : (m : ℕ) (l : List A) → total f (take m l) ≤ total f l
  beginning-le m l = beginning-from 0 m l

module _ {A : Type 0} where
  -- a beginning of a beginning
  pub take-take : (m n : ℕ) (l : List A) → m ≤ n → take m (take n l) ≡ take m l
  take-take zero n l h = refl
  take-take (suc m) zero l h = absurd (omega arith)
  take-take (suc m) (suc n) [] h = refl
  take-take (suc m) (suc n) (a ∷ l) h = ap (λ (r : List A). a ∷ r) (take-take m n l (le_of_suc-le-suc h))

  -- n of the one list that are n of the other
  pub shared-length : (n : ℕ) (l m : List A) → take n m ≡ take n l → n ≤ length l → n ≤ length m
  shared-length n l m e h = omega (arith, length-take n l, length-take n m, ap length e)

-- The steps of reading a number, each in the form that a place of the code wants: X is what the whole text gives.
-- Assumes nothing.
use Rattle.std.specs.Prelude.{None, Some}
use Prim.Native.Nat.{ℕ, ◌+◌, ◌<◌, ◌≤◌}
use mathlib.Core.List.{List, [], ◌∷◌}
use mathlib.Core.Path.{◌≡◌, sym, ◌∙◌}
use lib.Dec.{eqb, ltb}
use lib.ListN.{length, get_or, drop}
use native.Mathlib.Omega.{arith}
use borrow.Author.Tests.{ne_eqb, le-leb, le-ltb}
use Rattle.base.proofs.Rest.{rest_at, rest_end}
use Rattle.digits.specs.Digits.{if_digit◌then◌, more, with_digit, scaled_by, point_from, up_to, Number}
use Rattle.digits.proofs.Steps.{Over, none, either, lost, taken, taken-small, scaled-over, point-over}
use Rattle.numbers.specs.Reading.{whole_from, zero_from, any_number_of, number_of}

whole-over : (d m v : ℕ) (rest : List ℕ) → m < v → Over m (whole_from d v rest)
unfolding whole_from
whole-over d m v [] h = scaled-over m v d h
whole-over d m v (b ∷ rest) h =
    either m (eqb b 46) (point-over d m v rest h)
    (either m (ltb b 48) none (either m (ltb 57 b) none (whole-over d m (more v b) rest (omega arith))))

-- the whole part
module _ (s : List ℕ) (i d m x : ℕ) (X : Number) (inv : up_to m (whole_from d x (drop i s)) ≡ X) where
  pub whole-end : length s ≤ i → (r : Number) → r ≡ up_to m (scaled_by x d) → r ≡ X
  unfolding whole_from
  whole-end h r q = q ∙ (simp (rest_end s i h, whole_from) at inv)

  module _ (h : i < length s) where
    pub whole-point : get_or s i 0 ≡ 46 → (r : Number) → r ≡ up_to m (point_from d x (drop (i + 1) s)) → r ≡ X
    unfolding whole_from
    whole-point e r q = q ∙ (simp (rest_at s i h, whole_from, e) at inv)

    module _ (n : get_or s i 0 ≡ 46 → ⊥) (r : Number) (q : r ≡ up_to m (with_digit x (get_or s i 0))) where
      whole-going : up_to m (if_digit (get_or s i 0) then whole_from d (more x (get_or s i 0)) (drop (i + 1) s)) ≡ X
      unfolding whole_from
      whole-going = simp (rest_at s i h, whole_from, ne_eqb _ _ n) at inv

      pub whole-more : (y : ℕ) → r ≡ Some y → up_to m (whole_from d y (drop (i + 1) s)) ≡ X
      whole-more y e =
          let t = taken m x (get_or s i 0) r q y e in
          rw t.is (simp (le-ltb _ _ t.low, le-ltb _ _ t.high) at whole-going)

      pub whole-stop : r ≡ None → None ≡ X
      whole-stop e = sym (lost m x (get_or s i 0) r q e _ (whole-over d m _ (drop (i + 1) s))) ∙ whole-going

pub ruleset whole_steps = (taken-small, whole-end, whole-point, whole-more, whole-stop)

-- the first byte
module _ (s : List ℕ) (d m : ℕ) where
  pub number-none : length s ≡ 0 → None ≡ number_of s d m
  unfolding number_of any_number_of
  number-none h = rw (rest_end s 0 (omega arith))

  module _ (some : length s ≡ 0 → ⊥) where
    first : drop 0 s ≡ get_or s 0 0 ∷ drop 1 s
    first = rest_at s 0 (omega arith)

    module _ (z : get_or s 0 0 ≡ 48) where
      zero-first : number_of s d m ≡ up_to m (zero_from d (drop 1 s))
      unfolding number_of any_number_of
      zero-first = rw (first, any_number_of, z)

      pub zero-alone : length s ≡ 1 → Some 0 ≡ number_of s d m
      unfolding zero_from
      zero-alone h = sym (zero-first ∙ simp (rest_end s 1 (omega arith), zero_from, le-leb 0 m (omega arith)))

      module _ (longer : length s ≡ 1 → ⊥) where
        second : drop 1 s ≡ get_or s 1 0 ∷ drop 2 s
        second = rest_at s 1 (omega arith)

        pub zero-point : get_or s 1 0 ≡ 46 → (r : Number) → r ≡ up_to m (point_from d 0 (drop 2 s))
            → r ≡ number_of s d m
        unfolding zero_from
        zero-point e r q = q ∙ sym (zero-first ∙ simp (second, zero_from, e))

        pub zero-other : (get_or s 1 0 ≡ 46 → ⊥) → None ≡ number_of s d m
        unfolding zero_from
        zero-other n = sym (zero-first ∙ simp (second, zero_from, ne_eqb _ _ n))

    module _ (n : get_or s 0 0 ≡ 48 → ⊥) (r : Number) (q : r ≡ up_to m (with_digit 0 (get_or s 0 0))) where
      digit-first : up_to m (if_digit (get_or s 0 0) then whole_from d (more 0 (get_or s 0 0)) (drop 1 s))
          ≡ number_of s d m
      unfolding number_of any_number_of
      digit-first = sym (rw (first, any_number_of, ne_eqb _ _ n))

      pub number-whole : (y : ℕ) → r ≡ Some y → (z : Number) → z ≡ up_to m (whole_from d y (drop 1 s))
          → z ≡ number_of s d m
      number-whole y e z p =
          let t = taken m 0 (get_or s 0 0) r q y e in
          p ∙ rw t.is (simp (le-ltb _ _ t.low, le-ltb _ _ t.high) at digit-first)

      pub number-stop : r ≡ None → None ≡ number_of s d m
      number-stop e = sym (lost m 0 (get_or s 0 0) r q e _ (whole-over d m _ (drop 1 s))) ∙ digit-first

pub ruleset number_steps = (taken-small, number-none, zero-alone, zero-point, zero-other, number-whole, number-stop)

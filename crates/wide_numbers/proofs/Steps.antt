-- The steps of reading a whole number of 64 bits, each in the form that a place of the code wants: X is what the whole
-- text gives. Assumes nothing.
use Rattle.std.specs.Prelude.{None, Some}
use Prim.Native.Nat.{ℕ, ◌+◌, ◌-◌, ◌*◌, ◌<◌, ◌≤◌}
use mathlib.Core.Bool.{Bool, true, false}
use mathlib.Core.List.{List, [], ◌∷◌}
use mathlib.Core.Path.{◌≡◌, refl, sym, ap, subst, ◌∙◌}
use lib.Dec.{eqb, ltb}
use lib.ListN.{length, get_or, drop}
use native.Mathlib.Omega.{arith}
use native.Mathlib.Nat.{mul-one}
use borrow.Author.Tests.{ne_eqb, eqb-true, eqb-false, le-leb, lt-ltb, le-ltb}
use Rattle.base.specs.Pick.{pick}
use Rattle.base.proofs.Rest.{rest_at, rest_end}
use Rattle.base.proofs.Clash.{clash}
use Rattle.digits.specs.Digits.{if_digit◌then◌, more, with_digit, fraction_from, point_from, up_to, Number}
use Rattle.digits.proofs.Steps.{Over, none, either, taken, lost, scaled-over, digit_low, digit-high, digit_large}
use Rattle.digits.proofs.Steps.{digit-fits}
use Rattle.numbers.specs.Reading.{whole_from, any_number_of, number_of}
use Rattle.numbers.proofs.Steps.{number-none, zero-alone, zero-point, zero-other}
use Rattle.wide_numbers.specs.Wide.{wide_most, Reads, widened, WideNumber}
use Rattle.wide_numbers.proofs.Agrees.{reads_as}

value_of : (n : Number) {y : ℕ} → widened n ≡ Some y → n ≡ Some y
value_of (Some v) {y} e = let p : v ≡ y = cc in ap Some p
value_of None e = clash cc

none_of : (n : Number) → widened n ≡ None → n ≡ None
none_of (Some v) e = clash cc
none_of None e = refl

-- ---- one digit more

module _ (v b : ℕ) where
  pub wide_low : b < 48 → None ≡ widened (up_to wide_most (with_digit v b))
  wide_low l = ap widened (digit_low wide_most v b l)

  module _ (l : 48 ≤ b) where
    pub wide_high : 57 < b → None ≡ widened (up_to wide_most (with_digit v b))
    wide_high u = ap widened (digit-high wide_most v b l u)

    module _ (u : b ≤ 57) where
      pub wide-beyond : 1844674407370955161 < v → None ≡ widened (up_to wide_most (with_digit v b))
      wide-beyond h = ap widened (digit_large wide_most v b l u (omega arith))

      pub wide_large : wide_most - v * 10 < b - 48 → None ≡ widened (up_to wide_most (with_digit v b))
      wide_large h = ap widened (digit_large wide_most v b l u (omega arith))

      pub wide_fits : v ≤ 1844674407370955161 → b - 48 ≤ wide_most - v * 10
          → Some (v * 10 + (b - 48)) ≡ widened (up_to wide_most (with_digit v b))
      wide_fits k h = ap widened (digit-fits wide_most v b l u (omega arith))

pub ruleset digit_steps = (wide_low, wide_high, wide-beyond, wide_large, wide_fits)

-- ---- without decimals there is nothing behind a point, so that only digits are read

no-decimals : (v : ℕ) (rest : List ℕ) → point_from 0 v rest ≡ None
unfolding point_from fraction_from
no-decimals v [] = refl
no-decimals v (b ∷ rest) = refl

digits-alone : (v b : ℕ) (rest : List ℕ) → whole_from 0 v (b ∷ rest) ≡ (if_digit b then whole_from 0 (more v b) rest)
unfolding whole_from
digits-alone v b rest = go (eqb b 46) refl
  where
    go : (t : Bool) → eqb b 46 ≡ t
        → pick t (point_from 0 v rest) (if_digit b then whole_from 0 (more v b) rest)
        ≡ (if_digit b then whole_from 0 (more v b) rest)
    go true e =
        let low : b < 48 = omega (arith, eqb-true b 46 e) in
        no-decimals v rest ∙ sym (simp (lt-ltb b 48 low))
    go false e = refl

-- what is too large already stays so
whole-over : (v : ℕ) (rest : List ℕ) → wide_most < v → Over wide_most (whole_from 0 v rest)
unfolding whole_from
whole-over v [] h = scaled-over wide_most v 0 h
whole-over v (b ∷ rest) h =
    subst (Over wide_most) (sym (digits-alone v b rest))
    (either wide_most (ltb b 48) none
    (either wide_most (ltb 57 b) none (whole-over (more v b) rest (omega arith))))

at-end : (x : ℕ) → x ≤ wide_most → widened (up_to wide_most (whole_from 0 x [])) ≡ Some x
unfolding whole_from
at-end x l =
    ap (λ (n : ℕ). widened (up_to wide_most (Some n))) (mul-one x) ∙ simp (le-leb x wide_most l)

module _ (s : List ℕ) (i x : ℕ) (X : WideNumber) (inv : widened (up_to wide_most (whole_from 0 x (drop i s))) ≡ X) where
  pub wide-end : length s ≤ i → x ≤ wide_most → Some x ≡ X
  wide-end h l = sym (at-end x l) ∙ (rw (rest_end s i h) at inv)

  module _ (h : i < length s) (r : WideNumber) (q : r ≡ widened (up_to wide_most (with_digit x (get_or s i 0)))) where
    going : widened
        (up_to wide_most (if_digit (get_or s i 0) then whole_from 0 (more x (get_or s i 0)) (drop (i + 1) s))) ≡ X
    going = rw (rest_at s i h, digits-alone x (get_or s i 0) (drop (i + 1) s)) at inv

    pub wide-small : (y : ℕ) → r ≡ Some y → y ≤ wide_most
    wide-small y e = (taken wide_most x (get_or s i 0) _ refl y (value_of _ (sym q ∙ e))).small

    pub wide-more : (y : ℕ) → r ≡ Some y → widened (up_to wide_most (whole_from 0 y (drop (i + 1) s))) ≡ X
    wide-more y e =
        let t = taken wide_most x (get_or s i 0) _ refl y (value_of _ (sym q ∙ e)) in
        rw t.is (simp (le-ltb _ _ t.low, le-ltb _ _ t.high) at going)

    pub wide-stop : r ≡ None → None ≡ X
    wide-stop e =
        sym (ap widened (lost wide_most x (get_or s i 0) _ refl (none_of _ (sym q ∙ e)) _
        (whole-over (more x (get_or s i 0)) (drop (i + 1) s))))
        ∙ going

pub ruleset spelled_steps = (wide-end, wide-small, wide-more, wide-stop)

-- ---- the whole text, by its first byte

digits-first : (s : List ℕ) → (length s ≡ 0 → ⊥) → (get_or s 0 0 ≡ 48 → ⊥) → any_number_of s 0 ≡ whole_from 0 0 s
unfolding any_number_of
digits-first [] some n = absurd (some refl)
digits-first (b ∷ rest) some n = rw (ne_eqb b 48 n) (sym (digits-alone 0 b rest))

zero-first : (s : List ℕ) → (length s ≡ 0 → ⊥) → get_or s 0 0 ≡ 48 → (length s ≡ 1 → ⊥)
    → None ≡ number_of s 0 wide_most
zero-first s some z longer = go (eqb (get_or s 1 0) 46) refl
  where
    go : (t : Bool) → eqb (get_or s 1 0) 46 ≡ t → None ≡ number_of s 0 wide_most
    go true e =
        zero-point s 0 wide_most some z longer (eqb-true _ _ e) None
        (sym (ap (up_to wide_most) (no-decimals 0 (drop 2 s))))
    go false e = zero-other s 0 wide_most some z longer (eqb-false _ _ e)

module _ (s : List ℕ) where
  pub reads_none : length s ≡ 0 → Reads s None
  reads_none h = reads_as s _ (ap widened (number-none s 0 wide_most h))

  module _ (some : length s ≡ 0 → ⊥) where
    module _ (z : get_or s 0 0 ≡ 48) where
      pub reads-zero : length s ≡ 1 → Reads s (Some 0)
      reads-zero h = reads_as s _ (ap widened (zero-alone s 0 wide_most some z h))

      pub reads-no-zero : (length s ≡ 1 → ⊥) → Reads s None
      reads-no-zero longer = reads_as s _ (ap widened (zero-first s some z longer))

    pub reads-digits : (get_or s 0 0 ≡ 48 → ⊥) → (r : WideNumber) → r ≡ widened (up_to wide_most (whole_from 0 0 s))
        → Reads s r
    unfolding number_of
    reads-digits n r q =
        reads_as s r (q ∙ ap (λ (x : Number). widened (up_to wide_most x)) (sym (digits-first s some n)))

pub ruleset number_steps = (reads_none, reads-zero, reads-no-zero, reads-digits)

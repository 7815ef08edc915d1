-- Kilograms that are written are a number, with the value that it is written for. Assumes nothing.
use mathlib.Core.Path.{◌≡◌, refl, ap, ◌∙◌}
use mathlib.Core.List.{◌++◌}
use Prim.Native.Nat.{ℕ, suc, ◌/◌, ◌^◌, ◌<◌}
use native.Mathlib.Nat.{div-lt_iff_lt-mul, pow-suc, mul-one}
use native.Mathlib.Omega.{arith}
use lib.IntN.{ℤ, pos, negsuc, nat_abs}
use Rattle.base.specs.Text.{bytes}
use Rattle.numbers.specs.Numbers.{IsNumber, value}
use Rattle.numbers.proofs.Agrees.{same_number}
use Rattle.decimal.specs.Writing.{lowest, width, whole_of}
use Rattle.decimal.proofs.Widths.{lowest-length, lowest-split}
use Rattle.decimal.proofs.Written.{lowest-digits, lowest-value, wide, whole_from_lem}
use Rattle.kilogram_text.specs.Kilograms.{sign, thousandths_of, kilograms_of, ThreeDecimals}

thousand-wide : (w n : ℕ) → n / 1000 < 10 ^ w → n < 10 ^ suc (suc (suc w))
thousand-wide w n h =
    rw (pow-suc 10 (suc (suc w)), pow-suc 10 (suc w), pow-suc 10 w)
    (omega (arith, (div-lt_iff_lt-mul {k = 1000} {x = n} {y = 10 ^ w} (omega arith)).0 h))

-- Grams that are written as kilograms read as themselves, in thousandths; below zero the same stands behind a `-`.
pub kilograms-number : (n : ℕ) → IsNumber (kilograms_of (pos n)) 3 n
unfolding kilograms_of thousandths_of sign whole_of
kilograms-number n =
    let w = width (n / 1000) in
    same_number refl (mul-one _ ∙ ap value (lowest-split w n)
    ∙ lowest-value (suc (suc (suc w))) n (thousand-wide w n (wide (n / 1000) (n / 1000) (omega arith))))
    (IsNumber.pointed (whole_from_lem (n / 1000)) (lowest-digits 3 n) (omega arith) (omega arith))

pub kilograms-below : (n : ℕ) → kilograms_of (negsuc n) ≡ bytes "-" ++ kilograms_of (pos (suc n))
unfolding kilograms_of sign
kilograms-below n = refl

-- Kilograms have a whole part, a point and three digits behind it.
pub three-decimals : (g : ℤ) → ThreeDecimals g (kilograms_of g)
unfolding kilograms_of thousandths_of
three-decimals g =
    record {
      whole = whole_of (nat_abs g / 1000);
      decimals = lowest 3 (nat_abs g);
      is_whole = whole_from_lem (nat_abs g / 1000);
      are_digits = lowest-digits 3 (nat_abs g);
      three = lowest-length 3 (nat_abs g);
      is = refl;
    }

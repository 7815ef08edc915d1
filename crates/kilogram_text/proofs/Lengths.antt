-- How long kilograms are, and what they are made of, by what the code's calls gave.
-- Assumes nothing.
use mathlib.Core.Path.{◌≡◌, refl}
use mathlib.Core.List.{[], ◌∷◌, ◌++◌}
use Prim.Native.Nat.{ℕ, suc, ◌+◌, ◌/◌, ◌≤◌, ◌<◌, ◌^◌}
use native.Mathlib.Omega.{arith}
use lib.ListN.{length, length-append}
use lib.IntN.{ℤ, pos, negsuc, nat_abs}
use mir.Syntax.{w64}
use mir.Val.{SFits}
use Rattle.decimal.specs.Writing.{lowest, whole_of}
use Rattle.decimal.proofs.Widths.{lowest-length, whole_length, width-below}
use Rattle.kilogram_text.specs.Kilograms.{sign, thousandths_of, kilograms_of}
use Rattle.kilogram_text.proofs.Signs.{sign-short}

pub thousandths-length : (n : ℕ) → length (thousandths_of n) ≡ length (whole_of (n / 1000)) + 1 + 3
unfolding thousandths_of
thousandths-length n = simp length-append (omega (arith, lowest-length 3 n))

pub thousandths-is : (n : ℕ) → whole_of (n / 1000) ++ (46 ∷ []) ++ lowest 3 n ≡ thousandths_of n
unfolding thousandths_of
thousandths-is n = refl

pub kilograms-is : (g : ℤ) (m : ℕ) → m ≡ nat_abs g → sign g ++ thousandths_of m ≡ kilograms_of g
unfolding kilograms_of
kilograms-is g m e = rw e

pub kilograms-length : (g : ℤ) → length (kilograms_of g) ≡ length (sign g) + length (thousandths_of (nat_abs g))
unfolding kilograms_of
kilograms-length g = length-append (sign g) (thousandths_of (nat_abs g))

-- kilograms of at most k + 1 digits before the point
pub kilograms-within : (k : ℕ) (g : ℤ) → nat_abs g / 1000 < 10 ^ suc k
    → length (kilograms_of g) ≤ length (sign g) + suc k + 4
kilograms-within k g h =
    let n = nat_abs g / 1000 in
    omega (arith, kilograms-length g, thousandths-length (nat_abs g), whole_length n, width-below k n h)

fits_abs : (g : ℤ) → SFits w64 g → nat_abs g ≤ 2 ^ 63
fits_abs (pos n) f = let h : n < 2 ^ 63 = f.sfits in omega arith
fits_abs (negsuc n) f = let h : n < 2 ^ 63 = f.sfits in omega arith

pub kilograms-short : (g : ℤ) → SFits w64 g → length (kilograms_of g) ≤ 21
kilograms-short g f = omega (arith, kilograms-within 15 g (omega (arith, fits_abs g f)), sign-short g)

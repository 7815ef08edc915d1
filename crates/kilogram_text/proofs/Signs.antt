-- The sign of an i64 as it is written, by the test that the code makes. Assumes nothing.
use mathlib.Core.Path.{◌≡◌, refl}
use mathlib.Core.Bool.{true, false}
use mathlib.Core.List.{[], ◌∷◌}
use Prim.Native.Nat.{◌≤◌}
use native.Mathlib.Omega.{arith}
use lib.ListN.{length}
use lib.IntN.{ℤ, pos, negsuc}
use lib.Signed.{lt_z}
use mir.Syntax.{w64}
use mir.Val.{SFits}
use Rattle.cut_division.proofs.Signs.{back, never-below, always_below}
use Rattle.kilogram_text.specs.Kilograms.{sign}

pub sign_below : (g : ℤ) → SFits w64 g → lt_z (back g) (pos 0) ≡ true → sign g ≡ 45 ∷ []
unfolding sign
sign_below (pos n) f t = absurd (never-below f t)
sign_below (negsuc n) f t = refl

pub sign-none : (g : ℤ) → SFits w64 g → lt_z (back g) (pos 0) ≡ false → sign g ≡ []
unfolding sign
sign-none (pos n) f t = refl
sign-none (negsuc n) f t = absurd (always_below f t)

pub sign-short : (g : ℤ) → length (sign g) ≤ 1
unfolding sign
sign-short (pos n) = omega arith
sign-short (negsuc n) = omega arith

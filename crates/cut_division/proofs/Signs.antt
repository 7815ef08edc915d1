-- The sign of an i64, as code tests it. Assumes nothing.
use mathlib.Core.Path.{◌≡◌, sym, ap, ◌∙◌}
use mathlib.Core.Bool.{true, false}
use Prim.Native.Nat.{ℕ, ◌<◌}
use native.Mathlib.Omega.{arith}
use borrow.Author.Tests.{ltb-true}
use lib.IntN.{ℤ, pos, negsuc}
use lib.Signed.{lt_z}
use mir.Syntax.{w64}
use mir.Val.{SFits, to_z, of_z}
use mir.Facts.{to_z-of_z}
use Rattle.base.proofs.Clash.{clash}

-- what is read back of a signed value's bits
abbrev pub back : ℤ → ℤ
back z = to_z w64 (of_z w64 z)

never : true ≡ false → ⊥
never z = clash cc

-- what each of the two tests says of each sign
module _ {n : ℕ} where
  pub never-below : SFits w64 (pos n) → lt_z (back (pos n)) (pos 0) ≡ true → ⊥
  never-below f t = let b : n < 0 = ltb-true n 0 (ap (λ (z : ℤ). lt_z z (pos 0)) (sym (to_z-of_z f)) ∙ t) in omega arith

  pub always_below : SFits w64 (negsuc n) → lt_z (back (negsuc n)) (pos 0) ≡ false → ⊥
  always_below f t = never (ap (λ (z : ℤ). lt_z z (pos 0)) (sym (to_z-of_z f)) ∙ t)

-- The number of a record that may be below zero, an i32: as code reads it, and as it reads the i64 that it makes of it.
-- Assumes nothing.
use mathlib.Core.Path.{◌≡◌, sym, ◌∙◌, subst}
use lib.IntN.{ℤ}
use mir.Syntax.{w32, w64}
use mir.Val.{SFits, to_z, of_z}
use mir.Facts.{to_z-of_z, sfits_widen}

-- what is read back of its bits, and of the bits of the i64
abbrev pub back : ℤ → ℤ
back v = to_z w32 (of_z w32 v)

abbrev pub wide : ℤ → ℤ
wide v = to_z w64 (of_z w64 (back v))

module _ {v : ℤ} (f : SFits w32 v) where
  pub wide_fits : SFits w64 (back v)
  wide_fits = subst (SFits w64) (sym (to_z-of_z f)) (sfits_widen tt f)

  pub wide_is : wide v ≡ v
  wide_is = to_z-of_z wide_fits ∙ to_z-of_z f

-- What is put for a number that may be below zero, by its sign. Assumes nothing.
use Prim.Native.Nat.{ℕ, ◌+◌, ◌≤◌}
use mathlib.Core.Path.{◌≡◌, ap}
use mathlib.Core.List.{List, ◌++◌}
use native.Mathlib.Omega.{arith}
use mir.Syntax.{w32}
use mir.Val.{SFits}
use lib.IntN.{ℤ, nat_abs}
use lib.ListN.{length, length-append}
use Rattle.base.specs.Wrote.{Wrote}
use Rattle.base.proofs.Writes.{wrote_as}
use Rattle.decimal.specs.Writing.{whole_of}
use Rattle.kilogram_text.specs.Kilograms.{sign}
use Rattle.inputs.specs.declared.Form.{Form}
use Rattle.farm.specs.declared.Given.{Given}
use Rattle.farm.specs.declared.Given.TheVariants.{Signed}
use Rattle.farm.proofs.Narrow.{wide, wide_fits, wide_is}
use Rattle.value_texts.specs.Values.{signed_text, value_text}

-- ---- a number that may be below zero

pub signed_is : (v : ℤ) (m : ℕ) → m ≡ nat_abs v → sign v ++ whole_of m ≡ signed_text v
unfolding signed_text
signed_is v m e = rw e

pub signed-length : (v : ℤ) → length (signed_text v) ≡ length (sign v) + length (whole_of (nat_abs v))
unfolding signed_text
signed-length v = length-append (sign v) (whole_of (nat_abs v))

-- ---- such a number as the value of an input

-- as the code reads it, the sign with the bits
module _ (form : Form) {given : Given} {v : ℤ} (f : SFits w32 v) (e : given ≡ Signed v) where
  below-is : signed_text (wide v) ≡ value_text form given
  unfolding value_text
  below-is = rw e (ap signed_text (wide_is f))

  pub below-room : (at n : ℕ) → at + length (value_text form given) ≤ n → at + length (signed_text (wide v)) ≤ n
  below-room at n h = omega (arith, h, ap length below-is)

  pub below_put : {old new : List ℕ} {at next : ℕ} → Wrote old at (signed_text (wide v)) new next
      → Wrote old at (value_text form given) new next
  below_put x = wrote_as below-is x

pub ruleset value_steps = (wide_fits, below-room, below_put)

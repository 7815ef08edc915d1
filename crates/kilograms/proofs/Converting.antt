-- The loop that converts grams: what it reads of a number is the number's grams. Assumes nothing.
use Prim.Native.Nat.{ℕ, ◌≤◌}
use mathlib.Core.Path.{◌≡◌}
use mathlib.Core.List.{List}
use native.Mathlib.Omega.{arith}
use lib.IntN.{ℤ, nat_abs}
use mir.Syntax.{w64}
use mir.Val.{to_z, of_z}
use Rattle.cut_division.proofs.Signed.{back}
use Rattle.outputs.specs.Grams.{GramsTo, grams_at}
use Rattle.kilograms.specs.Kilograms.{exact_most}

module _ (grams : List ℤ) (i : ℕ) (to : GramsTo exact_most grams) where
  -- the grams of a number are the grams, read as an i64
  pub read : to_z w64 (of_z w64 (grams_at grams i)) ≡ grams_at grams i
  read = back (grams_at grams i) (omega (arith, to.most i))

  pub small : nat_abs (to_z w64 (of_z w64 (grams_at grams i))) ≤ exact_most
  small = rw read (to.most i)

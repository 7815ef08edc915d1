-- `printing::tell::kilograms` is safe: the buffer is as long as kilograms can be. Assumes nothing.
use Prim.Native.Nat.{◌≤◌}
use mathlib.Core.Path.{ap}
use native.Mathlib.Omega.{arith}
use lib.ListN.{length}
use mir.Syntax.{w64}
use mir.Val.{to_z, of_z}
use mir.Facts.{to_z-of_z}
use Rattle.kilogram_text.specs.Kilograms.{kilograms_of}
use Rattle.kilogram_text.proofs.Lengths.{kilograms-short}
use borrow.Author.Rules.{rules}
use Rattle.printing.proofs.tell.kilograms.Goals as goal

pub put_kilograms-n-requires : goal.put_kilograms-n-requires
put_kilograms-n-requires g c = omega (
  arith,
  kilograms-short c.args.grams c.ranges.grams,
  ap (λ z. length (kilograms_of z)) (to_z-of_z c.ranges.grams),
)

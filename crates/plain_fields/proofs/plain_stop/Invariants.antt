-- `plain_fields::plain_stop` meets its contract. The invariant: the scan from i on stops where the whole does, and i is
-- not past both the file and the place where the scan began. Assumes nothing.
use Prim.Native.Nat.{◌≤◌, max}
use mathlib.Core.Path.{◌≡◌}
use lib.ListN.{length, drop}
use Rattle.plain_fields.specs.Places.{plain_stop}
use Rattle.plain_fields.proofs.plain_stop.Given as goal

abbrev pub invariant-loop-i : goal.invariant-loop-i
invariant-loop-i l = (l.i ≤ max l.at (length l.s)) × (plain_stop l.i (drop l.i l.s) ≡ plain_stop l.at (drop l.at l.s))

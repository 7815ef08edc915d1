-- `field_ends::quoted_end` meets its contract. The invariant: the scan from i on finds what is sought; the measure is
-- what is left of the file. Assumes nothing.
use Prim.Native.Nat.{◌-◌}
use mathlib.Core.Path.{◌≡◌}
use lib.ListN.{length, drop}
use Rattle.field_ends.specs.Places.{quoted_from}
use Rattle.field_ends.proofs.quoted_end.Given as goal

abbrev pub invariant-loop-i : goal.invariant-loop-i
invariant-loop-i l = quoted_from l.at l.i (drop l.i l.s) ≡ quoted_from l.at l.at (drop l.at l.s)

abbrev pub decreases-loop-i : goal.decreases-loop-i
decreases-loop-i l = length l.s - l.i

-- `quoting::put_units` meets its contract: what is still to be shown is the name from i on. Assumes nothing.
use Prim.Native.Nat.{◌-◌}
use lib.ListN.{length}
use Rattle.quoting.proofs.Steps.{Putting}
use Rattle.quoting.proofs.put_units.Given as goal

abbrev pub invariant-loop-i : goal.invariant-loop-i
invariant-loop-i l = Putting l.form l.s l.initial.out l.at l.i l.out l.o

abbrev pub decreases-loop-i : goal.decreases-loop-i
decreases-loop-i l = length l.s - l.i

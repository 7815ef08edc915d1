-- `gate::logs::read_records` meets its contract: the loop goes from one place that is reached to the next. The
-- measure is the bytes left. Assumes nothing.
use Prim.Native.Nat.{◌-◌}
use lib.ListN.{length}
use Rattle.gate.proofs.LogSteps.{Reached}
use Rattle.gate.proofs.logs.read_records.Given as goal

abbrev pub invariant-loop-f : goal.invariant-loop-f
invariant-loop-f l = Reached l.s l.place l.p l.number

abbrev pub decreases-loop-f : goal.decreases-loop-f
decreases-loop-f l = length l.s - l.place.at

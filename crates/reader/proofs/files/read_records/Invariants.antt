-- `reader::files::read_records` meets its contract: the loop goes from one place that is reached to the next. The
-- measure is the bytes left. Assumes nothing.
use Prim.Native.Nat.{◌-◌}
use lib.ListN.{length}
use Rattle.reader.proofs.LoopSteps.{Reached}
use Rattle.reader.proofs.files.read_records.Given as goal

abbrev pub invariant-loop-done : goal.invariant-loop-done
invariant-loop-done l = Reached l.most l.s l.place l.herds l.count l.prints l.c l.number

abbrev pub decreases-loop-done : goal.decreases-loop-done
decreases-loop-done l = length l.s - l.place.at

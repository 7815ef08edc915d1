-- `mend_writes::put_changes` meets its contract: what is still to be written is the changes from i on. Assumes nothing.
use Rattle.mend_writes.proofs.Steps.{Listing}
use Rattle.mend_writes.proofs.put_changes.Given as goal

abbrev pub invariant-loop-i : goal.invariant-loop-i
invariant-loop-i l = Listing l.s l.from l.initial.list l.start l.i l.passed l.list l.at

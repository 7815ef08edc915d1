-- `mend_print::lines::put_lines` meets its contract: what is still to be put is the lines of the numbers that are left.
-- Assumes nothing.
use lib.ListN.{length}
use Rattle.mend_print.proofs.LineSteps.{Putting}
use Rattle.mend_print.proofs.lines.put_lines.Given as goal

abbrev pub invariant-loop-rest : goal.invariant-loop-rest
invariant-loop-rest l = Putting l.list l.initial.out l.rest l.out l.at

abbrev pub decreases-loop-rest : goal.decreases-loop-rest
decreases-loop-rest l = length l.rest

-- `mend_writes::put_text` meets its contract: what is still to be written is the mended text from i on.
-- Assumes nothing.
use Rattle.mend_writes.proofs.Steps.{Writing}
use Rattle.mend_writes.proofs.put_text.Given as goal

abbrev pub invariant-loop-i : goal.invariant-loop-i
invariant-loop-i l = Writing l.s l.from l.initial.out l.i l.passed l.out l.at

-- `spreadsheet::bare_count` meets its contract: what was counted and what is still to come make the whole.
-- Assumes nothing.
use Rattle.spreadsheet.proofs.Counting.{Counting}
use Rattle.spreadsheet.proofs.bare_count.Given as goal

abbrev pub invariant-loop-i : goal.invariant-loop-i
invariant-loop-i l = Counting l.s l.from l.i l.passed l.n

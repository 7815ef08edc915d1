-- The loop keeps the sum of the first i herds, and that no beginning of at most i herds passes the line. Assumes
-- nothing.
use Rattle.above_line.proofs.Steps.{Below}
use Rattle.farm_above.proofs.above.Given as goal

abbrev pub invariant-loop-i : goal.invariant-loop-i
invariant-loop-i l = Below l.line l.farm l.i l.sum

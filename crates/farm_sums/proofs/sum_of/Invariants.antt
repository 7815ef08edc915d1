-- The loop keeps that the sum so far, and the figures of the herds from i on, add up to those of the whole farm, and
-- that the sum so far is at most i times what one herd has. Assumes nothing.
use Rattle.model.proofs.AnswerSteps.{Adding}
use Rattle.farm_sums.proofs.sum_of.Given as goal

abbrev pub invariant-loop-i : goal.invariant-loop-i
invariant-loop-i l = Adding l.farm l.i l.sum

-- A farm's listing put together: what is still to be written is the listings of the herds from i on, and then the
-- totals. Assumes nothing.
use Rattle.lines_figures.proofs.FarmSteps.{Listing}
use Rattle.lines_figures.proofs.put_farm.Given as goal

abbrev pub invariant-loop-h : goal.invariant-loop-h
invariant-loop-h l = Listing l.fn.farm l.initial.out l.h-index l.sum l.out l.at

-- `views::herds::put_herds` meets its contract, herd by herd. Assumes nothing.
use Rattle.views.proofs.FarmSteps.{Putting}
use Rattle.views.proofs.herds.put_herds.Given as goal

abbrev pub invariant-loop-h : goal.invariant-loop-h
invariant-loop-h l = Putting l.view l.fn.farm l.initial.out l.h-index l.out l.at

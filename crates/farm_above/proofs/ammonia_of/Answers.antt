-- `farm_above::ammonia_of` meets its contract: no ammonia figure is below zero, so the magnitude of their sum is the
-- sum. Assumes nothing.
use Rattle.above_line.proofs.Steps.{own_steps}
use borrow.Author.Rules.{rules}
use Rattle.farm_above.proofs.ammonia_of.Goals as goal

pub figures-figures-requires : goal.figures-figures-requires
figures-figures-requires c = search (rules, own_steps)

pub total-requires : goal.total-requires
total-requires c = search (rules, own_steps)

pub returns : goal.returns
returns c = search (rules, own_steps)

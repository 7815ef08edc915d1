-- `farm_above::above` meets its contract, herd by herd: no sum passes 64 bits. Assumes nothing.
use borrow.Author.Rules.{rules}
use Rattle.farm.proofs.Left.{length_mapped}
use Rattle.above_line.proofs.Steps.{line_steps}
use Rattle.farm_above.proofs.above.Goals as goal

pub loop-i-init : goal.loop-i-init
loop-i-init c = search (rules, line_steps)

pub ammonia_of-own-requires : goal.ammonia_of-own-requires
ammonia_of-own-requires c = search (rules, line_steps, length_mapped)

pub overflow_add-sum : goal.overflow_add-sum
overflow_add-sum c = search (rules, line_steps, length_mapped)

pub returns-then-line-sum : goal.returns-then-line-sum
returns-then-line-sum c = search (rules, line_steps, length_mapped)

pub loop-i-preserved : goal.loop-i-preserved
loop-i-preserved c = search (rules, line_steps, length_mapped)

pub returns : goal.returns
returns c = search (rules, line_steps, length_mapped)

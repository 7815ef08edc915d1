-- The sum fits, and what is left gets shorter by what was added. Assumes nothing.
use Rattle.view_writing.proofs.LengthSteps.{length_steps}
use borrow.Author.Rules.{rules}
use Rattle.view_writing.proofs.lengths.herds_length.Goals as goal

pub loop-h-init : goal.loop-h-init
loop-h-init c = search (rules, length_steps)

pub herd_length-sum-requires : goal.herd_length-sum-requires
herd_length-sum-requires c = search (rules, length_steps)

pub overflow_add-sum : goal.overflow_add-sum
overflow_add-sum c = search (rules, length_steps)

pub loop-h-preserved : goal.loop-h-preserved
loop-h-preserved c = search (rules, length_steps)

pub returns : goal.returns
returns c = search (rules, length_steps)

-- The sum fits, and what is left gets shorter by what was added. Assumes nothing.
use Rattle.file_length.proofs.Steps.{length_steps}
use borrow.Author.Rules.{rules}
use Rattle.file_length.proofs.length_of.Goals as goal

pub overflow_add-sum : goal.overflow_add-sum
overflow_add-sum c = search (rules, length_steps)

pub loop-h-preserved : goal.loop-h-preserved
loop-h-preserved c = search (rules, length_steps)

pub returns : goal.returns
returns c = search (rules, length_steps)

-- `number_values::below_read` meets its contract: what the number's reading answers, less than 0, said as a value.
-- Assumes nothing.
use borrow.Author.Rules.{rules}
use Rattle.number_values.proofs.NumberSteps.{number_steps}
use Rattle.number_values.proofs.below_read.Goals as goal

pub returns-in_default : goal.returns-in_default
returns-in_default c = search (rules, number_steps)

pub returns-then-v-eq0 : goal.returns-then-v-eq0
returns-then-v-eq0 c = search (rules, number_steps)

pub overflow_cast-result : goal.overflow_cast-result
overflow_cast-result c = search (rules, number_steps)

pub overflow_sub-result : goal.overflow_sub-result
overflow_sub-result c = search (rules, number_steps)

pub returns : goal.returns
returns c = search (rules, number_steps)

-- `number_values::signed_read` meets its contract: by the byte in front. Assumes nothing.
use borrow.Author.Rules.{rules}
use Rattle.number_values.proofs.NumberSteps.{number_steps}
use Rattle.number_values.proofs.signed_read.Goals as goal

pub returns-then-has_minus : goal.returns-then-has_minus
returns-then-has_minus c = search (rules, number_steps)

pub returns-else-has_minus : goal.returns-else-has_minus
returns-else-has_minus c = search (rules, number_steps)

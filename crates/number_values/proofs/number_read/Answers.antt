-- `number_values::number_read` meets its contract: what the number's reading answers, said as a value. Assumes
-- nothing.
use borrow.Author.Rules.{rules}
use Rattle.number_values.proofs.NumberSteps.{number_steps}
use Rattle.number_values.proofs.number_read.Goals as goal

pub returns-in_default : goal.returns-in_default
returns-in_default c = search (rules, number_steps)

pub returns : goal.returns
returns c = search (rules, number_steps)

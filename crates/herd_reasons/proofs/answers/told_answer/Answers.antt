-- `herd_reasons::answers::told_answer` meets its contract, by what is told. Assumes nothing.
use Rattle.herd_reasons.proofs.Steps.{told_steps}
use borrow.Author.Rules.{rules}
use Rattle.herd_reasons.proofs.answers.told_answer.Goals as goal

pub returns-in-Some : goal.returns-in-Some
returns-in-Some c = search (rules, told_steps)

pub returns-in-None : goal.returns-in-None
returns-in-None c = search (rules, told_steps)

-- `lent_steps::told` meets its contract. Assumes nothing.
use borrow.Author.Rules.{rules}
use Rattle.lent_steps.proofs.Steps.{calling_steps}
use Rattle.lent_steps.proofs.told.Goals as goal

pub returns-in-Ok : goal.returns-in-Ok
returns-in-Ok c = search (rules, calling_steps)

pub returns-in-Err : goal.returns-in-Err
returns-in-Err c = search (rules, calling_steps)

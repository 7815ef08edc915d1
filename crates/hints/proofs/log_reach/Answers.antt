-- `hints::log_reach` meets its contract: by what reading the log said. Assumes nothing.
use Rattle.hints.proofs.Steps.{reach_steps}
use borrow.Author.Rules.{rules}
use Rattle.hints.proofs.log_reach.Goals as goal

pub returns-in-Ok : goal.returns-in-Ok
returns-in-Ok c = search (rules, reach_steps)

pub returns-in-Err : goal.returns-in-Err
returns-in-Err c = search (rules, reach_steps)

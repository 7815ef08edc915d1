-- `hints::read_to` meets its contract: by what the file is read as. Assumes nothing.
use Rattle.hints.proofs.Steps.{reach_steps}
use borrow.Author.Rules.{rules}
use Rattle.hints.proofs.read_to.Goals as goal

pub returns-in-Farm : goal.returns-in-Farm
returns-in-Farm c = search (rules, reach_steps)

pub returns-in-Log : goal.returns-in-Log
returns-in-Log c = search (rules, reach_steps)

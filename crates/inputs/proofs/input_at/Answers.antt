-- `inputs::input_at` meets its contract, kind by kind. Assumes nothing.
use borrow.Author.Rules.{rules}
use Rattle.inputs.proofs.Arms.{numbered_in}
use Rattle.inputs.proofs.input_at.Goals as goal

pub returns-in-Roughage : goal.returns-in-Roughage
returns-in-Roughage c = search (rules, numbered_in)

pub returns-in-Cattle : goal.returns-in-Cattle
returns-in-Cattle c = search (rules, numbered_in)

pub returns-in-Pigs : goal.returns-in-Pigs
returns-in-Pigs c = search (rules, numbered_in)

pub returns-in-DairyCow : goal.returns-in-DairyCow
returns-in-DairyCow c = search (rules, numbered_in)

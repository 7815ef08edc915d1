-- `herd_inputs::tan_of` meets its contract, by the kind of cattle. Assumes nothing.
use borrow.Author.Rules.{rules}
use Rattle.typed_inputs.proofs.Fields.{tans}
use Rattle.herd_inputs.proofs.tan_of.Goals as goal

pub returns-in-OtherCattle : goal.returns-in-OtherCattle
returns-in-OtherCattle c = search (rules, tans)

pub returns-in-DairyCow : goal.returns-in-DairyCow
returns-in-DairyCow c = search (rules, tans)

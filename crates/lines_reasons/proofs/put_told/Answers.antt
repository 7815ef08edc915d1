-- `lines_reasons::put_told` meets its contract: by what is told. Assumes nothing.
use Rattle.lines_reasons.proofs.LineSteps.{as-nothing, wording_steps}
use borrow.Author.Rules.{rules}
use Rattle.lines_reasons.proofs.put_told.Goals as goal

pub returns-in-Some : goal.returns-in-Some
returns-in-Some c = search (rules, wording_steps)

pub returns-in-None : goal.returns-in-None
returns-in-None c = as-nothing _ _ _ _ _ c.in-None.is

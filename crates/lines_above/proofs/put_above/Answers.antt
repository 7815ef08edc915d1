-- `lines_above::put_above` meets its contract, by the answer. Assumes nothing.
use Rattle.lines_above.proofs.Steps.{line_steps}
use borrow.Author.Rules.{rules}
use Rattle.lines_above.proofs.put_above.Goals as goal

pub returns-in-Yes : goal.returns-in-Yes
returns-in-Yes c = search (rules, line_steps)

pub returns-in-No : goal.returns-in-No
returns-in-No c = search (rules, line_steps)

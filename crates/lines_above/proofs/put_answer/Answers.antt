-- `lines_above::put_answer` meets its contract, by the answer. Assumes nothing.
use Rattle.lines_above.proofs.Steps.{line_steps}
use borrow.Author.Rules.{rules}
use Rattle.lines_above.proofs.put_answer.Goals as goal

pub returns-in-Ok : goal.returns-in-Ok
returns-in-Ok c = search (rules, line_steps)

pub returns-in-Err : goal.returns-in-Err
returns-in-Err c = search (rules, line_steps)

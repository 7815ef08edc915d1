-- `lines_steps::put_answer` meets its contract, by what was decided. Assumes nothing.
use Rattle.lines_steps.proofs.Steps.{step_Lines}
use borrow.Author.Rules.{rules}
use Rattle.lines_steps.proofs.put_answer.Goals as goal

pub put_total_lines-requires : goal.put_total_lines-requires
put_total_lines-requires c = search (rules, step_Lines)

pub put_refusal-requires : goal.put_refusal-requires
put_refusal-requires c = search (rules, step_Lines)

pub returns-in-Ok : goal.returns-in-Ok
returns-in-Ok c = search (rules, step_Lines)

pub returns-in-Err : goal.returns-in-Err
returns-in-Err c = search (rules, step_Lines)

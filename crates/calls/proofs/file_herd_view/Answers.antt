-- `calls::file_herd_view` meets its contract: the herd of a farm that is read passes the record checks.
-- Assumes nothing.
use Rattle.contracts.proofs.FileSteps.{file_steps}
use borrow.Author.Rules.{rules}
use Rattle.base.proofs.SameRefused.{handed_on}
use Rattle.calls.proofs.file_herd_view.Goals as goal

pub returns-then-answer-number : goal.returns-then-answer-number
returns-then-answer-number c = search (rules, file_steps, c.in_ok-answer.was)

pub offset_bounds-answer-number : goal.offset_bounds-answer-number
offset_bounds-answer-number c = search (rules, file_steps, c.in_ok-answer.was)

pub bounds-answer-number : goal.bounds-answer-number
bounds-answer-number c = search (rules, file_steps, c.in_ok-answer.was)

pub returns-else-answer-number : goal.returns-else-answer-number
returns-else-answer-number c = search (rules, file_steps, c.in_ok-answer.was)

pub returns-in_err-answer : goal.returns-in_err-answer
returns-in_err-answer c = search (rules, file_steps, c.in_err-answer.was, handed_on c.from_residual.ensures)

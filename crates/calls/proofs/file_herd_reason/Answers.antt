-- `calls::file_herd_reason` meets its contract: the herd at its place, or none. Assumes nothing.
use Rattle.contracts.proofs.Reasons.{file_reason_steps}
use borrow.Author.Rules.{rules}
use Rattle.base.proofs.SameRefused.{handed_on}
use Rattle.calls.proofs.file_herd_reason.Goals as goal

pub offset_bounds-answer-number : goal.offset_bounds-answer-number
offset_bounds-answer-number c = search (rules, file_reason_steps, c.in_ok-answer.was)

pub bounds-answer-number : goal.bounds-answer-number
bounds-answer-number c = search (rules, file_reason_steps, c.in_ok-answer.was)

pub returns-then-number-answer : goal.returns-then-number-answer
returns-then-number-answer c = search (rules, file_reason_steps, c.in_ok-answer.was)

pub returns-else-number-answer : goal.returns-else-number-answer
returns-else-number-answer c = search (rules, file_reason_steps, c.in_ok-answer.was)

pub returns-in_err-answer : goal.returns-in_err-answer
returns-in_err-answer c = search (rules, file_reason_steps, c.in_err-answer.was, handed_on c.from_residual.ensures)

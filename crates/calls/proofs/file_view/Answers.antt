-- `calls::file_view` meets its contract: a farm that is read passes the record checks, and its view is put straight, or
-- measured first, or goes by its limit. Assumes nothing.
use Rattle.contracts.proofs.FileSteps.{view_steps}
use borrow.Author.Rules.{rules}
use Rattle.base.proofs.SameRefused.{handed_on}
use Rattle.calls.proofs.file_view.Goals as goal

pub accepted_view-requires : goal.accepted_view-requires
accepted_view-requires c = search (rules, view_steps, c.in_ok-answer.was)

pub returns-then-has_limit : goal.returns-then-has_limit
returns-then-has_limit c = search (rules, view_steps, c.in_ok-answer.was)

pub overflow_mul-room : goal.overflow_mul-room
overflow_mul-room c = search (rules, view_steps, c.in_ok-answer.was)

pub overflow_add-room : goal.overflow_add-room
overflow_add-room c = search (rules, view_steps, c.in_ok-answer.was)

pub put_view-requires : goal.put_view-requires
put_view-requires c = search (rules, view_steps, c.in_ok-answer.was)

pub returns-then-room-out : goal.returns-then-room-out
returns-then-room-out c = search (rules, view_steps, c.in_ok-answer.was)

pub write_view-requires : goal.write_view-requires
write_view-requires c = search (rules, view_steps, c.in_ok-answer.was)

pub returns-else-room-out : goal.returns-else-room-out
returns-else-room-out c = search (rules, view_steps, c.in_ok-answer.was)

pub returns-in_err-answer : goal.returns-in_err-answer
returns-in_err-answer c = search (rules, view_steps, c.in_err-answer.was, handed_on c.from_residual.ensures)

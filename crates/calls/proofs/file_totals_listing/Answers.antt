-- `calls::file_totals_listing` meets its contract: a farm that is read passes the record checks.
-- Assumes nothing.
use Rattle.contracts.proofs.FileSteps.{file_steps}
use borrow.Author.Rules.{rules}
use Rattle.base.proofs.SameRefused.{handed_on}
use Rattle.calls.proofs.file_totals_listing.Goals as goal

pub returns : goal.returns
returns c = search (rules, file_steps, c.in_ok-answer.was)

pub returns-in_err-answer : goal.returns-in_err-answer
returns-in_err-answer c = search (rules, file_steps, c.in_err-answer.was, handed_on c.from_residual.ensures)

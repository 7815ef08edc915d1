-- `view_calls::accepted_view` meets its contract: the view's own refusal, or what is written. Assumes nothing.
use Rattle.contracts.proofs.RecordSteps.{accepted_steps}
use borrow.Author.Rules.{rules}
use Rattle.base.proofs.SameRefused.{handed_on}
use Rattle.view_calls.proofs.accepted_view.Goals as goal

pub returns : goal.returns
returns c = search (rules, accepted_steps, c.in_ok-check_view.was)

pub returns-in_err-check_view : goal.returns-in_err-check_view
returns-in_err-check_view c = search (rules, accepted_steps, c.in_err-check_view.was, handed_on c.from_residual.ensures)

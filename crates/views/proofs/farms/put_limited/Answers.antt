-- `views::farms::put_limited` meets its contract: the view, or its refusal. Assumes nothing.
use Rattle.views.proofs.FarmSteps.{put_steps}
use borrow.Author.Rules.{rules}
use Rattle.views.proofs.farms.put_limited.Goals as goal

pub returns : goal.returns
returns c = search (rules, put_steps)

pub returns-in_err-check_view : goal.returns-in_err-check_view
returns-in_err-check_view c = search (rules, put_steps)

-- `views::farms::check_view` meets its contract: a file's limit, and of another view nothing. Assumes nothing.
use Rattle.views.proofs.FarmSteps.{limit_steps}
use borrow.Author.Rules.{rules}
use Rattle.views.proofs.farms.check_view.Goals as goal

pub returns-then-has_limit : goal.returns-then-has_limit
returns-then-has_limit c = search (rules, limit_steps)

pub returns-else-has_limit : goal.returns-else-has_limit
returns-else-has_limit c = search (rules, limit_steps)

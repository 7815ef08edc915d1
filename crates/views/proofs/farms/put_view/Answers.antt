-- `views::farms::put_view` meets its contract: the listing of the figures, or herd after herd. Assumes nothing.
use Rattle.views.proofs.FarmSteps.{view_steps}
use borrow.Author.Rules.{rules}
use Rattle.views.proofs.farms.put_view.Goals as goal

pub returns-then-is_figures : goal.returns-then-is_figures
returns-then-is_figures c = search (rules, view_steps)

pub returns-else-is_figures : goal.returns-else-is_figures
returns-else-is_figures c = search (rules, view_steps)

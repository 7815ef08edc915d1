-- `view_writing::parts::put_behind` meets its contract: the totals of the sum of all herds' figures, or nothing.
-- Assumes nothing.
use Rattle.view_writing.proofs.PartSteps.{behind_steps}
use borrow.Author.Rules.{rules}
use Rattle.view_writing.proofs.parts.put_behind.Goals as goal

pub totals_from-requires : goal.totals_from-requires
totals_from-requires c = search (rules, behind_steps)

pub put_total_lines-requires : goal.put_total_lines-requires
put_total_lines-requires c = search (rules, behind_steps)

pub returns-then-is_figures : goal.returns-then-is_figures
returns-then-is_figures c = search (rules, behind_steps)

pub returns-else-is_figures : goal.returns-else-is_figures
returns-else-is_figures c = search (rules, behind_steps)

-- `cut_division::less` meets its contract: the difference is no larger than the larger of the two, so it fits. Assumes
-- nothing.
use borrow.Author.Rules.{rules}
use Rattle.cut_division.proofs.Signed.{less_steps}
use Rattle.cut_division.proofs.less.Goals as goal

pub overflow_sub-result : goal.overflow_sub-result
overflow_sub-result c = search (rules, less_steps)

pub returns : goal.returns
returns c = search (rules, less_steps)

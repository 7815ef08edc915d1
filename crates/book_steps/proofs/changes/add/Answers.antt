-- The herds with the new one behind them, and the totals more by its figures. Assumes nothing.
use borrow.Author.Rules.{rules}
use Rattle.book_steps.proofs.ChangeSteps.{change_steps}
use Rattle.book_steps.proofs.changes.add.Goals as goal

pub returns : goal.returns
returns c = search (rules, change_steps)

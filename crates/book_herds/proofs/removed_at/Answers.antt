-- `book_herds::removed_at` meets its contract: a herd more moves up, and the last one closes the gap. Assumes nothing.
use borrow.Author.Rules.{rules}
use Rattle.farm.proofs.Left.{length_mapped}
use Rattle.book_herds.proofs.Steps.{removal_steps}
use Rattle.book_herds.proofs.removed_at.Goals as goal

pub loop-i-init : goal.loop-i-init
loop-i-init c = search (rules, removal_steps, length_mapped)

pub loop-i-preserved : goal.loop-i-preserved
loop-i-preserved c = search (rules, removal_steps)

pub returns : goal.returns
returns c = search (rules, removal_steps, length_mapped)

use Rattle.spreadsheet.proofs.Counting.{count_steps}
use borrow.Author.Rules.{rules}
use Rattle.spreadsheet.proofs.bare_count.Goals as goal

pub loop-i-init : goal.loop-i-init
loop-i-init c = search (rules, count_steps)

pub loop-i-preserved : goal.loop-i-preserved
loop-i-preserved c = search (rules, count_steps)

pub returns : goal.returns
returns c = search (rules, count_steps)

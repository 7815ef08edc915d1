use Rattle.csv_reader.proofs.Going.{row_steps}
use borrow.Author.Rules.{rules}
use Rattle.csv_reader.proofs.ReaderPlace.next.Goals as goal

pub returns-then-s-at : goal.returns-then-s-at
returns-then-s-at c = search (rules, row_steps)

pub loop-p-init : goal.loop-p-init
loop-p-init c = search (rules, row_steps)

pub loop-p-smaller : goal.loop-p-smaller
loop-p-smaller c = search (rules, row_steps)

pub loop-p-preserved : goal.loop-p-preserved
loop-p-preserved c = search (rules, row_steps)

pub returns-in-Crlf : goal.returns-in-Crlf
returns-in-Crlf c = search (rules, row_steps)

pub returns-in-File : goal.returns-in-File
returns-in-File c = search (rules, row_steps)

pub returns-in-Broken : goal.returns-in-Broken
returns-in-Broken c = search (rules, row_steps)

-- `farm::prints::print_of` meets its contract: the bytes in use go into the print one after the other. Assumes nothing.
use borrow.Author.Rules.{rules}
use Rattle.farm.proofs.PrintSteps.{print_steps}
use Rattle.farm.proofs.prints.print_of.Goals as goal

pub returns-then-l-gt-LABEL_MOST : goal.returns-then-l-gt-LABEL_MOST
returns-then-l-gt-LABEL_MOST c = search (rules, print_steps)

pub loop-b-init : goal.loop-b-init
loop-b-init c = search (rules, print_steps)

pub loop-b-preserved : goal.loop-b-preserved
loop-b-preserved c = search (rules, print_steps)

pub returns : goal.returns
returns c = search (rules, print_steps)

-- `herd_tests::has_print` meets its contract: a print more is compared, and the last one ends the search. Assumes
-- nothing.
use borrow.Author.Rules.{rules}
use Rattle.herd_tests.proofs.PrintSteps.{print_steps}
use Rattle.herd_tests.proofs.has_print.Goals as goal

pub loop-p-preserved : goal.loop-p-preserved
loop-p-preserved c = search (rules, print_steps)

pub returns : goal.returns
returns c = search (rules, print_steps)

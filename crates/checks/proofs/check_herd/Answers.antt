-- The tests are the definition's, in their order; no herd is earlier. Assumes nothing.
use borrow.Author.Rules.{rules}
use Rattle.checks.specs.Checks.{check_herd}
use Rattle.checks.proofs.HerdSteps.{flags}
use Rattle.checks.proofs.check_herd.Goals as goal

pub returns-then-not-label_ok : goal.returns-then-not-label_ok
unfolding check_herd
returns-then-not-label_ok c = search (rules, flags)

pub returns : goal.returns
unfolding check_herd
returns c = search (rules, flags)

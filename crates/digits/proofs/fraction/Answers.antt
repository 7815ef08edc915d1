-- The step of the loop, by the lemmas in `Steps`. Assumes nothing.
use Rattle.digits.proofs.Steps.{fraction_steps}
use borrow.Author.Rules.{rules}
use Rattle.digits.proofs.fraction.Goals as goal

pub loop-i-preserved : goal.loop-i-preserved
loop-i-preserved c = search (rules, fraction_steps)

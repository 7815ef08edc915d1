-- The steps of the loop, by the lemmas in `Parts`. Assumes nothing.
use borrow.Author.Rules.{rules}
use Rattle.base.proofs.Parts.{same_steps}
use Rattle.base.proofs.same.Goals as goal

pub returns-then-a-b : goal.returns-then-a-b
returns-then-a-b c = search (rules, same_steps)

pub loop-i-preserved : goal.loop-i-preserved
loop-i-preserved c = search (rules, same_steps)

pub returns : goal.returns
returns c = search (rules, same_steps)

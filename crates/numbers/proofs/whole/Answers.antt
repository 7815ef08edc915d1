use Rattle.numbers.proofs.Steps.{whole_steps}
use borrow.Author.Rules.{rules}
use Rattle.numbers.proofs.whole.Goals as goal

pub returns-then-b-eq46 : goal.returns-then-b-eq46
returns-then-b-eq46 c = search (rules, whole_steps)

pub returns-in_default : goal.returns-in_default
returns-in_default c = search (rules, whole_steps)

pub loop-i-preserved : goal.loop-i-preserved
loop-i-preserved c = search (rules, whole_steps)

pub returns : goal.returns
returns c = search (rules, whole_steps)

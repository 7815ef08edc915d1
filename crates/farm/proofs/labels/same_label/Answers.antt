-- The steps of the loop, by the lemmas in `LabelSteps`. Assumes nothing.
use borrow.Author.Rules.{rules}
use Rattle.farm.proofs.LabelSteps.{same_label_steps}
use Rattle.farm.proofs.labels.same_label.Goals as goal

pub loop-i-init : goal.loop-i-init
loop-i-init c = search (rules, same_label_steps)

pub loop-i-preserved : goal.loop-i-preserved
loop-i-preserved c = search (rules, same_label_steps)

pub returns : goal.returns
returns c = search (rules, same_label_steps)

pub returns-then-a-b : goal.returns-then-a-b
returns-then-a-b c = search (rules, same_label_steps)

pub returns-then-a-i : goal.returns-then-a-i
returns-then-a-i c = search (rules, same_label_steps)

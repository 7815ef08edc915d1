-- The steps of the loop, by the lemmas in `Parts`. Assumes nothing.
use Rattle.base.proofs.Parts.{letter_steps}
use borrow.Author.Rules.{rules}
use Rattle.base.proofs.same_letters.Goals as goal

pub returns-then-a-word : goal.returns-then-a-word
returns-then-a-word c = search (rules, letter_steps)

pub returns-then-lower_case-word : goal.returns-then-lower_case-word
returns-then-lower_case-word c = search (rules, letter_steps)

pub loop-i-preserved : goal.loop-i-preserved
loop-i-preserved c = search (rules, letter_steps)

pub returns : goal.returns
returns c = search (rules, letter_steps)

use Rattle.wide_numbers.proofs.Steps.{spelled_steps}
use borrow.Author.Rules.{rules}
use Rattle.wide_numbers.proofs.spelled.Goals as goal

pub returns-in_default : goal.returns-in_default
returns-in_default c = search (rules, spelled_steps)

pub loop-b-preserved : goal.loop-b-preserved
loop-b-preserved c = search (rules, spelled_steps)

pub returns : goal.returns
returns c = search (rules, spelled_steps)

use borrow.Author.Rules.{rules}
use Rattle.shortest_numbers.proofs.Steps.{part_steps}
use Rattle.shortest_numbers.proofs.whole_part.Goals as goal

pub loop-init : goal.loop-init
loop-init c = search (rules, part_steps)

pub loop-preserved : goal.loop-preserved
loop-preserved c = search (rules, part_steps)

pub returns : goal.returns
returns c = search (rules, part_steps)

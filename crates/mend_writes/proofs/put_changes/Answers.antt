use Rattle.mend_writes.proofs.Steps.{list_steps}
use borrow.Author.Rules.{rules}
use Rattle.mend_writes.proofs.put_changes.Goals as goal

pub loop-i-init : goal.loop-i-init
loop-i-init c = search (rules, list_steps)

pub put_change-at-requires : goal.put_change-at-requires
put_change-at-requires c = search (rules, list_steps)

pub loop-i-preserved : goal.loop-i-preserved
loop-i-preserved c = search (rules, list_steps)

pub shape_of-list : goal.shape_of-list
shape_of-list c = search (rules, list_steps)

pub returns : goal.returns
returns c = search (rules, list_steps)

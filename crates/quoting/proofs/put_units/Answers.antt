use Rattle.quoting.proofs.Steps.{put_steps}
use borrow.Author.Rules.{rules}
use Rattle.quoting.proofs.put_units.Goals as goal

pub loop-i-init : goal.loop-i-init
loop-i-init c = search (rules, put_steps)

pub put_unit-o-requires : goal.put_unit-o-requires
put_unit-o-requires c = search (rules, put_steps)

pub loop-i-preserved : goal.loop-i-preserved
loop-i-preserved c = search (rules, put_steps)

pub shape_of-out : goal.shape_of-out
shape_of-out c = search (rules, put_steps)

pub returns : goal.returns
returns c = search (rules, put_steps)

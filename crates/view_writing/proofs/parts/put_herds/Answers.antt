-- What is left gets shorter by the herd that was put. Assumes nothing.
use Rattle.views.proofs.FarmSteps.{ends}
use Rattle.view_writing.proofs.PartSteps.{herd_steps}
use borrow.Author.Rules.{rules}
use Rattle.view_writing.proofs.parts.put_herds.Goals as goal

pub loop-h-init : goal.loop-h-init
loop-h-init c = search (rules, herd_steps)

pub put_herd-at-requires : goal.put_herd-at-requires
put_herd-at-requires c = search (rules, herd_steps)

pub loop-h-preserved : goal.loop-h-preserved
loop-h-preserved c = search (rules, herd_steps)

pub shape_of-out : goal.shape_of-out
shape_of-out c = search (rules, herd_steps)

pub returns : goal.returns
returns c = (ends _ _ c.requires.0 _ _ _ _ c.loop-h.invariant c.loop-h-test.false).0

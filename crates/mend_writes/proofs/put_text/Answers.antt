use Rattle.mend_writes.proofs.Steps.{text_steps}
use borrow.Author.Rules.{rules}
use Rattle.mend_writes.proofs.put_text.Goals as goal

pub loop-i-init : goal.loop-i-init
loop-i-init c = search (rules, text_steps)

pub put_mended-at-requires : goal.put_mended-at-requires
put_mended-at-requires c = search (rules, text_steps)

pub loop-i-preserved : goal.loop-i-preserved
loop-i-preserved c = search (rules, text_steps)

pub shape_of-out : goal.shape_of-out
shape_of-out c = search (rules, text_steps)

pub returns : goal.returns
returns c = search (rules, text_steps)

-- The records that are left get fewer by the one that was put. Assumes nothing.
use borrow.Author.Rules.{rules}
use Rattle.farm.proofs.Left.{length_mapped}
use Rattle.file_text.proofs.HerdSteps.{herd-begun, herd_steps}
use Rattle.file_text.proofs.put_herd.Goals as goal

pub loop-slot-init : goal.loop-slot-init
loop-slot-init c = herd-begun c.args.herd

pub put_record-next-requires : goal.put_record-next-requires
put_record-next-requires c = search (rules, herd_steps, length_mapped)

pub loop-slot-preserved : goal.loop-slot-preserved
loop-slot-preserved c = search (rules, herd_steps)

pub returns : goal.returns
returns c = search (rules, herd_steps)

-- `view_writing::parts::put_herd` meets its contract: the herd's text goes through the scratch. Assumes nothing.
use Rattle.view_writing.proofs.PartSteps.{scratch_steps}
use borrow.Author.Rules.{rules}
use Rattle.view_writing.proofs.parts.put_herd.Goals as goal

pub put-requires : goal.put-requires
put-requires c = search (rules, scratch_steps)

pub returns : goal.returns
returns c = search (rules, scratch_steps)

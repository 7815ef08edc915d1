-- `lines_reasons::put_herd` meets its contract: the line of what is told of the herd's inputs. Assumes nothing.
use Rattle.lines_reasons.proofs.HerdSteps.{herd_steps}
use borrow.Author.Rules.{rules}
use Rattle.lines_reasons.proofs.put_herd.Goals as goal

pub told_of-requires : goal.told_of-requires
told_of-requires c = search (rules, herd_steps)

pub returns : goal.returns
returns c = search (rules, herd_steps)

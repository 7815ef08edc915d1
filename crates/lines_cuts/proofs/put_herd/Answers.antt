-- `lines_cuts::put_herd` meets its contract: the records of the cuts of the herd's inputs. Assumes nothing.
use Rattle.lines_cuts.proofs.HerdSteps.{herd_steps}
use borrow.Author.Rules.{rules}
use Rattle.lines_cuts.proofs.put_herd.Goals as goal

pub cuts_of-requires : goal.cuts_of-requires
cuts_of-requires c = search (rules, herd_steps)

pub put_cuts-requires : goal.put_cuts-requires
put_cuts-requires c = search (rules, herd_steps)

pub returns : goal.returns
returns c = search (rules, herd_steps)

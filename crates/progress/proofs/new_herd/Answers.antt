-- `progress::new_herd` meets its contract: no slot but this one says anything. Assumes nothing.
use borrow.Author.Rules.{rules}
use Rattle.progress.proofs.HerdSteps.{herd-new}
use Rattle.progress.proofs.new_herd.Goals as goal

pub returns : goal.returns
returns c = search (rules, herd-new)

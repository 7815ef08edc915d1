-- `progress::has_input` meets its contract: the slot is not missing. Assumes nothing.
use borrow.Author.Rules.{rules}
use Rattle.progress.proofs.HerdSteps.{slot-taken}
use Rattle.progress.proofs.has_input.Goals as goal

pub returns : goal.returns
returns c = search (rules, slot-taken)

-- `lent_steps::take_step` meets its contract: what is told and what is stored are of the step on the farm that was
-- loaded. Assumes nothing.
use Rattle.lent_steps.proofs.Follows.{follows}
use Rattle.lent_steps.proofs.take_step.Goals as goal

pub returns : goal.returns
returns c =
    follows _ _ _ _ _ _ _ _ c.load-farm.ensures c.step-after.ensures c.store.ensures c.told.ensures

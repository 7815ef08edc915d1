-- `lent::store` meets its contract: the herds for which there is room are copied, and the rest stays. Assumes nothing.
use Rattle.lent.proofs.Steps.{stored}
use Rattle.lent.proofs.store.Goals as goal

pub returns : goal.returns
returns c = stored c.args.farm c.args.herds.now c.copy_from_slice.ensures.after c.storable-n.ensures

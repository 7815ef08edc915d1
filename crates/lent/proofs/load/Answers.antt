-- `lent::load` meets its contract: the herds for which there is room are copied over blank ones. Assumes nothing.
use mathlib.Core.Path.{◌∙◌, ap}
use lib.ListN.{length}
use Rattle.lent.specs.Laid.{farm_in, farm_from}
use Rattle.lent.proofs.Steps.{loaded}
use Rattle.lent.proofs.load.Goals as goal

pub returns : goal.returns
unfolding farm_in
returns c =
    c.farm_from.ensures
    ∙ ap (λ l. farm_from l c.args.count (length c.args.herds.now))
    (loaded c.args.herds.now c.args.count c.copy_from_slice.ensures.after c.loadable-n.ensures c.no_herd-own.ensures)

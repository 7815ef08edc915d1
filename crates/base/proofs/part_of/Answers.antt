-- `base::part_of` meets its contract, by where the two ends lie. Assumes nothing.
use Rattle.base.proofs.Parts.{part-clipped}
use Rattle.base.proofs.part_of.Goals as goal

pub returns : goal.returns
returns c = part-clipped c.args.s.now c.args.from c.args.to _ _ c.min-end.ensures c.min.ensures

-- `blocks::put_block` meets its contract: a block is the bytes that stand at its place. Assumes nothing.
use Rattle.base.specs.Part.{part}
use Rattle.blocks.proofs.put_block.Goals as goal

pub returns : goal.returns
unfolding part
returns c = c.put.ensures

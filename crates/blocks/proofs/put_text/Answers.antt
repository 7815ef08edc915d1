-- `blocks::put_text` meets its contract: a text is at most three blocks, which may overlap. Assumes nothing.
use Rattle.blocks.proofs.Overlaps.{block_steps, in_three}
use borrow.Author.Rules.{rules}
use Rattle.blocks.proofs.put_text.Goals as goal

pub returns-then-last-le-BLOCK : goal.returns-then-last-le-BLOCK
returns-then-last-le-BLOCK c = search (rules, block_steps)

pub returns : goal.returns
returns c =
    in_three _ _ _ _ _ c.put_block.ensures (search rules) _ _ _ _ c.put_block-2.ensures c.put_block-3.ensures
    (search rules) (search rules)

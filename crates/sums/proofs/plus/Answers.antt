-- `sums::plus` meets its contract: each sum fits, and is the one of its number. Assumes nothing.
use borrow.Author.Rules.{rules}
use lib.ListN.{length}
use Rattle.outputs.specs.Names.{rows}
use Rattle.outputs.proofs.Signed.{plus_fits, plus_is}
use Rattle.outputs.proofs.ByNumber.{fill_none, fill_one, fill_all}
use Rattle.sums.proofs.plus.Goals as goal

pub loop-i-init : goal.loop-i-init
loop-i-init c = (search rules, fill_none _ _)

pub plus-requires : goal.plus-requires
plus-requires c = plus_fits c.requires.0 c.requires.1 _

pub loop-i-preserved : goal.loop-i-preserved
loop-i-preserved c = (
  search rules,
  fill_one _ c.loop-i.invariant.1 (search rules) (plus_is c.requires.0 c.requires.1 _ _ c.plus.ensures),
)

pub returns : goal.returns
returns c = fill_all _ (length rows) c.loop-i.invariant.1 (search rules) c.loop-i.invariant.0

-- `sums::total` meets its contract: each addend is a name, and the sum fits. Assumes nothing.
use Rattle.sums.proofs.Addends.{begun, known, one-fits, one_more, all-added}
use borrow.Author.Rules.{rules}
use Rattle.sums.proofs.total.Goals as goal

pub loop-k-init : goal.loop-k-init
loop-k-init c = begun _ c.requires.0 _ c.requires.1

pub offset_bounds-f-n : goal.offset_bounds-f-n
offset_bounds-f-n c = let k = known c.loop-k.invariant c.loop-k-test.true in search rules

pub bounds-f-n : goal.bounds-f-n
bounds-f-n c = known c.loop-k.invariant c.loop-k-test.true

pub plus-sum-requires : goal.plus-sum-requires
plus-sum-requires c = one-fits _ c.requires.0 _ _ _ _ c.loop-k.invariant c.loop-k-test.true

pub loop-k-preserved : goal.loop-k-preserved
loop-k-preserved c = one_more _ c.requires.0 _ _ _ _ c.loop-k.invariant c.loop-k-test.true _ c.plus-sum.ensures

pub returns : goal.returns
returns c = all-added _ c.requires.0 _ _ _ _ c.loop-k.invariant c.loop-k-test.false

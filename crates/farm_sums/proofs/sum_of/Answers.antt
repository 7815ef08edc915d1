-- `farm_sums::sum_of` meets its contract: the next herd's figures may be added, and then one herd more was. Assumes
-- nothing.
use mathlib.Core.Path.{◌≡◌}
use lib.ListN.{length}
use borrow.Author.Rules.{rules}
use Rattle.farm.specs.Limits.{herds_most}
use Rattle.farm.proofs.Left.{length_mapped}
use Rattle.model.proofs.AnswerSteps.{adding_steps, turned}
use Rattle.farm_sums.proofs.sum_of.Goals as goal

pub loop-i-init : goal.loop-i-init
loop-i-init c = search (rules, adding_steps)

pub figures-requires : goal.figures-requires
figures-requires c = search (rules, adding_steps)

pub plus-sum-requires : goal.plus-sum-requires
plus-sum-requires c =
    let long : length c.args.farm.herds ≡ herds_most = search (rules, length_mapped) in
    let turn = turned c.args.farm c.requires c.loop-i.i c.loop-i.sum c.loop-i.invariant long c.loop-i-test.true
    _ _ c.typed_of.ensures c.figures.result c.figures.ensures in
    turn.asks

pub loop-i-preserved : goal.loop-i-preserved
loop-i-preserved c =
    let long : length c.args.farm.herds ≡ herds_most = search (rules, length_mapped) in
    let turn = turned c.args.farm c.requires c.loop-i.i c.loop-i.sum c.loop-i.invariant long c.loop-i-test.true
    _ _ c.typed_of.ensures c.figures.result c.figures.ensures in
    turn.next c.plus-sum.result c.plus-sum.ensures

pub returns : goal.returns
returns c = search (rules, adding_steps)

-- What is left gets shorter by the herd that was listed, and the sum gets its figures. Assumes nothing.
use mathlib.Core.Path.{◌≡◌}
use lib.ListN.{length}
use Rattle.farm.specs.Limits.{herds_most}
use Rattle.farm.proofs.Left.{length_mapped}
use Rattle.lines_figures.proofs.FarmSteps.{has_room, asks, ends, farm_steps}
use borrow.Author.Rules.{rules}
use Rattle.lines_figures.proofs.put_farm.Goals as goal

pub loop-h-init : goal.loop-h-init
loop-h-init c = search (rules, farm_steps)

pub figures-f-requires : goal.figures-f-requires
figures-f-requires c = search (rules, farm_steps, length_mapped)

pub put_herd_lines-at-requires : goal.put_herd_lines-at-requires
put_herd_lines-at-requires c =
    let long : length c.args.farm.herds ≡ herds_most = search (rules, length_mapped) in
    has_room _ c.requires.0 _ c.requires.1 _ _ _ _ c.loop-h.invariant long c.loop-h-test.true _ _
    c.typed_of.ensures _ c.figures-f.ensures

pub plus-sum-requires : goal.plus-sum-requires
plus-sum-requires c =
    let long : length c.args.farm.herds ≡ herds_most = search (rules, length_mapped) in
    asks _ c.requires.0 _ c.requires.1 _ _ _ _ c.loop-h.invariant long c.loop-h-test.true _ _
    c.typed_of.ensures _ c.figures-f.ensures

pub loop-h-preserved : goal.loop-h-preserved
loop-h-preserved c = search (rules, farm_steps, length_mapped)

pub totals_from-requires : goal.totals_from-requires
totals_from-requires c = search (rules, farm_steps, length_mapped)

pub put_total_lines-requires : goal.put_total_lines-requires
put_total_lines-requires c = search (rules, farm_steps, length_mapped)

pub shape_of-out : goal.shape_of-out
shape_of-out c = search (rules, farm_steps, length_mapped)

pub returns : goal.returns
returns c =
    let long : length c.args.farm.herds ≡ herds_most = search (rules, length_mapped) in
    ends _ c.requires.0 _ c.requires.1 _ _ _ _ c.loop-h.invariant long c.loop-h-test.false _
    c.totals_from.ensures _ _ c.put_total_lines.ensures

-- The herds without the one of the label, and the totals less by its figures. Assumes nothing.
use Prim.Native.Nat.{◌<◌}
use borrow.Author.Rules.{rules}
use Rattle.farm.specs.Limits.{herds_most}
use Rattle.farm.proofs.Left.{length_mapped}
use Rattle.book_steps.proofs.ChangeSteps.{change_steps}
use Rattle.book_steps.proofs.changes.remove.Goals as goal

pub place_of-place-requires : goal.place_of-place-requires
place_of-place-requires c = search (rules, change_steps)

pub offset_bounds-farm-place : goal.offset_bounds-farm-place
offset_bounds-farm-place c =
    let inside : c.place_of-place.result < herds_most = search (rules, change_steps, length_mapped) in
    search (rules, inside)

pub bounds-farm-place : goal.bounds-farm-place
bounds-farm-place c = let inside : c.place_of-place.result < herds_most = search (rules, change_steps, length_mapped) in
    search (rules, inside)

pub herd_totals-gone-requires : goal.herd_totals-gone-requires
herd_totals-gone-requires c = search (rules, change_steps, length_mapped)

pub removed_at-requires : goal.removed_at-requires
removed_at-requires c = search (rules, change_steps, length_mapped)

pub returns : goal.returns
returns c = search (rules, change_steps, length_mapped)

-- `herd_inputs::pigs_of` meets its contract: each field is read from its slot. Assumes nothing.
use mathlib.Core.Path.{◌∙◌}
use borrow.Author.Rules.{rules}
use mir.Syntax.{w64}
use mir.Val.{SFits}
use mir.Facts.{to_z-of_z}
use Rattle.cut_division.proofs.Signs.{back}
use Rattle.typed_inputs.proofs.Fields.{is-pigs}
use Rattle.herd_inputs.proofs.pigs_of.Goals as goal

pub returns : goal.returns
returns c = let free = c.signed_at.result in
    let f : SFits w64 free = search rules in
    is-pigs c.args.h
    _ _ _ _ _ _ _ (back free) _ _ _ _
    c.number_at.ensures
    c.number_at-2.ensures
    c.number_at-3.ensures
    c.number_at-4.ensures
    c.housing_at.ensures
    c.number_at-5.ensures
    c.scrubber_at.ensures
    c.number_at-6.ensures
    c.housing_floor_at.ensures
    c.number_at-7.ensures
    c.housing_air_at.ensures
    (to_z-of_z f ∙ c.signed_at.ensures)

-- One more animal, never less ammonia (02, W14): of two records that the checks accept, alike in everything but the
-- animals, or but the N that is entered for a head, the one with more has no smaller NH3 figure. Assumes nothing.
use Prim.Native.String.{String}
use mathlib.Core.Path.{◌≡◌}
use Rattle.base.specs.Each.{none, more}
use Rattle.cut_division.proofs.Ordered.{whole_le}
use Rattle.amounts.specs.Arithmetic.{cutting}
use Rattle.inputs.specs.declared.Kind.{Kind}
use Rattle.inputs.specs.declared.Kind.TheVariants as kinds
use Rattle.farm.specs.declared.Herd.{Herd}
use Rattle.farm.specs.Answers.{Accepted}
use Rattle.checks.specs.Checks.{check_herd}
use Rattle.kinds.specs.declared.CattleKind.{CattleKind}
use Rattle.kinds.specs.declared.CattleKind.TheVariants.{OtherCattle, DairyCow}
use Rattle.typed_inputs.specs.Typed.{number_at, entered_at, roughage_of, kind_of, cattle_of, pigs_of}
use Rattle.outputs.specs.Sections.{FiguresIn}
use Rattle.outputs.specs.Grams.{grams_of}
use Rattle.herd.specs.Herd.{figures_of}
use Rattle.herd.proofs.Growing.{NoLessEmitted, roughage-grows, cattle-grows, pigs_grow}
use Rattle.model.specs.Answers.{herd_figures}
use Rattle.model.proofs.OfKind.{typed_roughage, typed_cattle, typed_pigs, roughage-sound}
use Rattle.growing_theorems.specs.Growing.{Grows, More, NoLessAmmonia}
use Rattle.growing_theorems.proofs.Alike.{
  both_grow,
  roughage-alike,
  roughage-animals,
  roughage_head,
  cattle-alike,
  cattle-animals,
  cattle_head,
  pigs-alike,
  pigs-animals,
  pigs_head,
}

-- source by source, by name
by_name : {f g : FiguresIn cutting} → NoLessEmitted f g
    → NoLessAmmonia (record { grams = grams_of f }) (record { grams = grams_of g })
by_name e = more (whole_le e.yard) (more (whole_le e.pasture) (more (whole_le e.housing) none))

module _ {name : String} (grows : Grows name) (h g : Herd) (accepted : check_herd h ≡ Accepted) where
  of-cattle : (k : CattleKind) → More name (kind_of k) h g → NoLessAmmonia (herd_figures h) (herd_figures g)
  unfolding figures_of
  of-cattle k m =
      let b = both_grow grows m in
      rw (typed_cattle h k m.kind_of_first, typed_cattle g k m.kind_of_second, cattle-alike k b)
      (by_name (cattle-grows (number_at g 0) (cattle_of k h) (number_at g 1) (cattle-animals k b) (cattle_head k b)))

  of_kind : (kind : Kind) → More name kind h g → NoLessAmmonia (herd_figures h) (herd_figures g)
  unfolding figures_of
  of_kind kinds.Roughage m =
      let b = both_grow grows m in
      rw (typed_roughage h m.kind_of_first, typed_roughage g m.kind_of_second, roughage-alike b)
      (by_name (roughage-grows (number_at g 1) (roughage_of h) (entered_at g 2)
      (roughage-sound h accepted m.kind_of_first) (roughage-animals b) (roughage_head b _)))
  of_kind kinds.Cattle m = of-cattle OtherCattle m
  of_kind kinds.DairyCow m = of-cattle DairyCow m
  of_kind kinds.Pigs m =
      let b = both_grow grows m in
      rw (typed_pigs h m.kind_of_first, typed_pigs g m.kind_of_second, pigs-alike b)
      (by_name (pigs_grow (number_at g 0) (pigs_of h) (number_at g 1) (pigs-animals b) (pigs_head b)))

  pub more-no-less : {kind : Kind} → More name kind h g → NoLessAmmonia (herd_figures h) (herd_figures g)
  more-no-less {kind} m = of_kind kind m

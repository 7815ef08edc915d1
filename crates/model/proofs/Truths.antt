-- The truths of the sections (proofs/Truths of `excretion`, `yard`, `pasture`, `housing` and `pig_house`) said of every
-- accepted record, over its figures by name; and that a farm's totals keep 2.1's equations and do not depend on the
-- order of its herds. Assumes nothing.
use Prim.Native.Nat.{ℕ, ◌-◌, ◌*◌, ◌/◌, ◌≤◌, ◌<◌}
use mathlib.Core.Path.{◌≡◌, refl, sym, ap, subst, ◌∙◌}
use mathlib.Core.List.{map}
use native.Mathlib.Nat.{le_refl, mul-le-mul_left, div-mul-le_self}
use native.Mathlib.Omega.{arith}
use Rattle.std.proofs.Common.{zero-le}
use lib.Dec.{le→leb}
use lib.IntN.{pos}
use lib.Signed.{◌≤ℤ◌, le_z_yes}
use Rattle.base.specs.Each.{none, more}
use Rattle.base.specs.Reordered.{Reordered}
use Rattle.base.proofs.Reordered.{reordered_map}
use Rattle.base.proofs.Each.{each_same}
use Rattle.inputs.specs.declared.Kind.TheVariants as kinds
use Rattle.farm.specs.declared.Herd.{Herd}
use Rattle.farm.specs.declared.Farm.{Farm}
use Rattle.farm.specs.Answers.{Accepted}
use Rattle.checks.specs.Checks.{check_herd, check_farm, herds_of}
use Rattle.cut_division.proofs.Shares.{part-le}
use Rattle.amounts.specs.Units.{billionths, year}
use Rattle.amounts.specs.Arithmetic.{cutting}
use Rattle.kinds.specs.declared.ExerciseYard.TheVariants.{NotAvailable}
use Rattle.kinds.specs.declared.HousingType.{HousingType}
use Rattle.kinds.specs.declared.HousingType.TheVariants.{Outdoor}
use Rattle.kinds.specs.declared.Roughage.{Roughage}
use Rattle.kinds.specs.declared.CattleKind.{CattleKind}
use Rattle.kinds.specs.declared.Cattle.{Cattle}
use Rattle.kinds.specs.declared.Pigs.{Pigs}
use Rattle.kinds.specs.declared.Inputs.{Inputs}
use Rattle.kinds.specs.declared.Inputs.TheVariants as typed
use Rattle.kinds.specs.Sound.{SoundRoughage, SoundCattle, Sound, roughage, cattle}
use Rattle.kinds.specs.Sound as sound
use Rattle.rates.specs.Rates.{cattle_rates}
use Rattle.excretion.specs.Excretion.{ExcretionIn, excreted, cattle_fraction}
use Rattle.yard.specs.Yard.{YardIn, on_yard, no_yard}
use Rattle.yard.proofs.Truths.{tan_into_yard_in_n, not_available_no-yard}
use Rattle.pasture.specs.Pasture.{
  GrazingIn,
  roughage_into_grazing,
  pigs_into_grazing,
  after_gases,
  outdoor_grazing,
  pigs_grazing,
}
use Rattle.pasture.proofs.Truths.{
  tan_into_outdoor-grazing_in_n,
  tan_into_roughage-grazing_in_n,
  tan_into_pigs-grazing_in_n,
  with_yard_days,
  not_available_same-pasture,
  housed-pigs-no-pasture,
  outdoor-pigs_leave_nothing,
}
use Rattle.housing.specs.Housing.{HousingIn, through_door, no_factors, ef_nh3_nhousing}
use Rattle.housing.proofs.InHousing.{nh3_in_housing-le}
use Rattle.housing.proofs.Truths.{c_grazing-from_1_to-k, factor-below_146, factor-below_073, ceiling_not-reached}
use Rattle.pig_house.specs.PigHouse as pigs
use Rattle.pig_house.specs.PigHouse.{PigHouseIn, pig_house, pig_factors, kept_back, no_pig_house}
use Rattle.pig_house.specs.NxOx.{NxOxIn, nx_ox, no_nx_ox}
use Rattle.pig_house.proofs.Factor.{ef_nh3_nhousing-le}
use Rattle.pig_house.proofs.Truths.{
  factor-within_0486,
  outdoor_house_is-empty,
  outdoor-fractions-are-empty,
  outdoors-no-gases,
}
use Rattle.typed_inputs.specs.Typed.{roughage_of, outdoor_of, kind_of, cattle_of, pigs_of, typed_of}
use Rattle.typed_inputs.proofs.Fields.{in_slots_lem}
use Rattle.typed_inputs.proofs.Sound.{typed_sound}
use Rattle.outputs.specs.declared.Figures.{Figures}
use Rattle.outputs.specs.Sections.{FiguresIn}
use Rattle.outputs.specs.Grams.{grams_of, figure}
use Rattle.outputs.specs.Equations.{Adds}
use Rattle.outputs.proofs.Adding.{totals_in-any-order}
use Rattle.outputs.proofs.Equations.{totals-add}
use Rattle.herd.specs.Herd.{of_roughage, of_pigs, outdoor_from, pigs_from, pigs_through, pigs_on, figures_in}
use Rattle.herd.specs.Herd.{figures_of}
use Rattle.herd.proofs.Made.{Made, of-roughage, of-outdoor, of-pigs, made}
use Rattle.model.specs.Answers.{herd_figures, farm_answer}
use Rattle.model.specs.Truths.{
  TanInN,
  free_of,
  BelowCeiling,
  InHousing,
  EmitsNoMore,
  EmitsPart,
  SameButYardDays,
  Nothing,
  NotBelowZero,
  pasture_names,
  house_names,
}
use Rattle.model.proofs.OfKind.{typed_cattle, typed_pigs, roughage-sound, cattle-sound}

abbrev herd_of : FiguresIn cutting → Figures
herd_of f = record { grams = grams_of f }

-- ---- TAN and N

no_more : {a b : ℕ} → a ≤ b → pos a ≤ℤ pos b
no_more {a} {b} h = le_z_yes (le→leb a b h)

made-tan_in-n : {f : FiguresIn cutting} → Made f → TanInN (herd_of f)
made-tan_in-n (of-roughage r e s m) =
    record {
      excreted = no_more m.tan_most;
      on_yard_within = no_more (le_refl 0);
      on_pasture_within = no_more (tan_into_roughage-grazing_in_n e.n_excretion e.tan_excretion m.tan_most r);
    }
made-tan_in-n (of-outdoor r o e hr s m) =
    record {
      excreted = no_more m.tan_most;
      on_yard_within = no_more (tan_into_yard_in_n o e.n_excretion e.tan_excretion m.tan_most);
      on_pasture_within = no_more (tan_into_outdoor-grazing_in_n e.n_excretion e.tan_excretion m.tan_most r o);
    }
made-tan_in-n (of-pigs p e s m) =
    record {
      excreted = no_more m.tan_most;
      on_yard_within = no_more (le_refl 0);
      on_pasture_within = no_more
          (tan_into_pigs-grazing_in_n e.n_excretion e.tan_excretion m.tan_most p.housing_type);
    }

pub tan_in-n : (h : Herd) → check_herd h ≡ Accepted → TanInN (herd_figures h)
unfolding figures_of
tan_in-n h accepted = made-tan_in-n (made (typed_sound h accepted))

-- ---- the housing of roughage-consuming animals

below_ceiling : (r : Roughage) → SoundRoughage r → (free : ℕ) → r.free_correction_factor ≡ pos free → BelowCeiling r
below_ceiling r s free e =
    record {
      factor_most = rw (ceiling_not-reached r s free e) (factor-below_073 r s free e);
      no_ceiling = ceiling_not-reached r s free e;
    }

pub in_housing_lem : (h : Herd) → check_herd h ≡ Accepted → h.kind ≡ kinds.Roughage → InHousing (roughage_of h)
in_housing_lem h accepted k =
    let s = roughage-sound h accepted k in
    let r = roughage_of h in
    let c = c_grazing-from_1_to-k r.grazing_days r.grazing_hours s.days s.hours in
    record {
      c_least = c.0;
      c_most = c.1;
      before_ceiling = factor-below_146 r s;
      not_raised = λ free e. below_ceiling r s free e;
    }

part-emitted : (tan factor : ℕ) → factor < 730000000 → 100 * (tan * factor / billionths) ≤ 73 * tan
part-emitted tan factor h =
    let most : factor ≤ 730000000 = omega arith in
    omega (arith, mul-le-mul_left tan most, div-mul-le_self (tan * factor) billionths)

made_emits : {f : FiguresIn cutting} → Made f → EmitsNoMore (herd_of f)
made_emits (of-roughage r e s m) =
    let tan = e.tan_excretion in
    nh3_in_housing-le r (tan - roughage_into_grazing cutting r tan)
made_emits (of-outdoor r o e hr s m) = zero-le
made_emits (of-pigs p e s m) =
    let tan = e.tan_excretion in
    part-le (tan - pigs_into_grazing cutting p.housing_type tan) (pigs.ef_nh3_nhousing cutting p) billionths
    (ef_nh3_nhousing-le p)

pub housing_emits : (h : Herd) → check_herd h ≡ Accepted → EmitsNoMore (herd_figures h)
unfolding figures_of
housing_emits h accepted = made_emits (made (typed_sound h accepted))

-- where the free factor is not below zero
emits_part : {i : Inputs} → Sound i → (free : ℕ) → free_of i ≡ pos free → EmitsPart (figures_of i)
unfolding figures_of
emits_part (roughage {r} s) free e =
    let tan = (of_roughage cutting r).excretion.tan_excretion in
    part-emitted (tan - roughage_into_grazing cutting r tan) (ef_nh3_nhousing cutting r)
    (below_ceiling r s free e).factor_most
emits_part (cattle s) free e = omega arith
emits_part (sound.pigs {p} s) free e =
    let below : pigs.ef_nh3_nhousing cutting p < 730000000 = omega (arith, factor-within_0486 p free e) in
    let tan = (of_pigs cutting p).excretion.tan_excretion in
    part-emitted (tan - pigs_into_grazing cutting p.housing_type tan) (pigs.ef_nh3_nhousing cutting p) below

pub housing_emits_part : (h : Herd) → check_herd h ≡ Accepted → (free : ℕ) → free_of (typed_of h) ≡ pos free
    → EmitsPart (herd_figures h)
housing_emits_part h accepted free e = emits_part (typed_sound h accepted) free e

-- ---- no yard

abbrev days_changed : ℕ → Cattle → Cattle
days_changed days c =
    record {
      kind = c.kind;
      animals = c.animals;
      inp_n_excretion = c.inp_n_excretion;
      tan_fraction = c.tan_fraction;
      outdoor = with_yard_days days c.outdoor;
    }

module _ (c : Cattle) (days : ℕ) (s : SoundCattle c) (few : days ≤ year)
    (no-yard : c.outdoor.exercise_yard ≡ NotAvailable) where
  same-cattle : figures_of (typed.Cattle (days_changed days c)) ≡ figures_of (typed.Cattle c)
  unfolding figures_of
  same-cattle =
      let e = excreted cutting c.animals c.inp_n_excretion (cattle_fraction c) in
      let r = cattle_rates c.kind in
      let n = e.n_excretion in
      let tan = e.tan_excretion in
      let o = c.outdoor in
      let grazing = outdoor_grazing cutting r (with_yard_days days o) n tan in
      ap (λ (y : YardIn cutting). herd_of (outdoor_from cutting e y grazing))
      (not_available_no-yard (with_yard_days days o) no-yard n tan ∙ sym (not_available_no-yard o no-yard n tan))
      ∙ ap (λ (g : GrazingIn cutting). herd_of (outdoor_from cutting e (on_yard cutting o n tan) g))
      (not_available_same-pasture cutting r o days n tan s.outdoor few no-yard)

module _ (h g : Herd) (same : SameButYardDays h g) (k : CattleKind) where
  other-days : cattle_of k g ≡ days_changed (cattle_of k g).outdoor.yard_days (cattle_of k h)
  unfolding outdoor_of
  other-days =
      rw (
        in_slots_lem g k,
        in_slots_lem h k,
        same 0 (λ e. omega arith),
        same 1 (λ e. omega arith),
        same 2 (λ e. omega arith),
        same 4 (λ e. omega arith),
        same 5 (λ e. omega arith),
        same 6 (λ e. omega arith),
        same 7 (λ e. omega arith),
        same 8 (λ e. omega arith),
      )

  pub yard-days-without-yard : check_herd h ≡ Accepted → check_herd g ≡ Accepted → h.kind ≡ kind_of k
      → g.kind ≡ kind_of k
      → (outdoor_of (kind_of k) h).exercise_yard ≡ NotAvailable → herd_figures g ≡ herd_figures h
  unfolding cattle_of
  yard-days-without-yard ah ag kh kg no-yard =
      rw (typed_cattle g k kg, typed_cattle h k kh)
      (ap (λ (c : Cattle). figures_of (typed.Cattle c)) other-days
      ∙ same-cattle (cattle_of k h) (cattle_of k g).outdoor.yard_days (cattle-sound h ah k kh)
      (cattle-sound g ag k kg).outdoor.yard no-yard)

-- ---- pigs

module _ (p : Pigs) where
  abbrev excretion : ExcretionIn cutting
  excretion = excreted cutting p.animals p.inp_n_excretion p.tan_fraction

  -- indoors nothing comes onto the pasture
  abbrev indoors : FiguresIn cutting
  indoors = pigs_through cutting p excretion (after_gases cutting 0 0 0 0 0 0)

  empty-pasture : Nothing pasture_names (herd_of indoors)
  empty-pasture = each_same (λ t. figure t (herd_of indoors)) (λ t. pos 0) pasture_names refl

  no-pasture : (p.housing_type ≡ Outdoor → ⊥) → Nothing pasture_names (figures_of (typed.Pigs p))
  unfolding figures_of
  no-pasture housed =
      subst (λ (g : GrazingIn cutting). Nothing pasture_names (herd_of (pigs_through cutting p excretion g)))
      (sym (housed-pigs-no-pasture p.housing_type excretion.n_excretion excretion.tan_excretion housed))
      empty-pasture

  -- outdoors the house is empty
  abbrev pasture : GrazingIn cutting
  pasture = pigs_grazing cutting p.housing_type excretion.n_excretion excretion.tan_excretion

  abbrev outdoors : HousingIn cutting → PigHouseIn cutting → NxOxIn cutting → FiguresIn cutting
  outdoors h q x =
      record {
        excretion = excretion;
        yard = no_yard cutting;
        grazing = pasture;
        housing = h;
        pig_house = q;
        nx_ox = x;
        factors = no_factors cutting;
        pig_factors = pig_factors cutting p;
        scrubbed = kept_back cutting p excretion.tan_excretion;
      }

  empty_house : Nothing house_names
      (herd_of (outdoors (through_door cutting 0 0) (no_pig_house cutting) (no_nx_ox cutting)))
  empty_house =
      each_same
      (λ t. figure t (herd_of (outdoors (through_door cutting 0 0) (no_pig_house cutting) (no_nx_ox cutting))))
      (λ t. pos 0) house_names refl

  module _ (out : p.housing_type ≡ Outdoor) where
    left_over : (x : ℕ) → x - pigs_into_grazing cutting p.housing_type x ≡ 0
    left_over x = rw out (outdoor-pigs_leave_nothing x)

    is-empty : pigs_on cutting p excretion
        ≡ outdoors (through_door cutting 0 0) (no_pig_house cutting) (no_nx_ox cutting)
    is-empty =
        let tan = excretion.tan_excretion in
        ap (λ (x : ℕ). pigs_from cutting p excretion pasture x (tan - pigs_into_grazing cutting p.housing_type tan))
        (left_over excretion.n_excretion)
        ∙ ap (pigs_from cutting p excretion pasture 0) (left_over tan)
        ∙ ap (λ (h : HousingIn cutting). outdoors h (pig_house cutting p tan 0 0) (nx_ox cutting p.housing_type 0))
        (outdoor_house_is-empty p out tan)
        ∙ ap (λ (q : PigHouseIn cutting). outdoors (through_door cutting 0 0) q (nx_ox cutting p.housing_type 0))
        (outdoor-fractions-are-empty p out tan)
        ∙ ap (λ (t : HousingType). outdoors (through_door cutting 0 0) (no_pig_house cutting) (nx_ox cutting t 0)) out
        ∙ ap (outdoors (through_door cutting 0 0) (no_pig_house cutting)) (outdoors-no-gases 0)

    no_house : Nothing house_names (figures_of (typed.Pigs p))
    unfolding figures_of
    no_house = subst (λ (f : FiguresIn cutting). Nothing house_names (herd_of f)) (sym is-empty) empty_house

module _ (h : Herd) (k : h.kind ≡ kinds.Pigs) where
  pub housed-pigs : ((pigs_of h).housing_type ≡ Outdoor → ⊥) → Nothing pasture_names (herd_figures h)
  housed-pigs housed = rw (typed_pigs h k) (no-pasture (pigs_of h) housed)

  pub outdoor-pigs : (pigs_of h).housing_type ≡ Outdoor → Nothing house_names (herd_figures h)
  outdoor-pigs out = rw (typed_pigs h k) (no_house (pigs_of h) out)

-- ---- no figure of a house is below zero

from_zero : (x : ℕ) → pos 0 ≤ℤ pos x
from_zero x = le_z_yes (le→leb 0 x zero-le)

not_below : (f : FiguresIn cutting) → NotBelowZero house_names (herd_of f)
not_below f =
    let h = f.housing in
    let q = f.pig_house in
    let x = f.nx_ox in
    more (from_zero h.n_into_housing)
    (more (from_zero h.tan_into_housing)
    (more (from_zero h.nh3_nhousing)
    (more (from_zero h.n_outhousing)
    (more (from_zero h.tan_outhousing)
    (more (from_zero q.tan_air_scrubber)
    (more (from_zero q.n_outhousing_liquid)
    (more (from_zero q.tan_outhousing_liquid)
    (more (from_zero q.n_outhousing_solid)
    (more (from_zero q.tan_outhousing_solid)
    (more (from_zero x.n2_nsolid)
    (more (from_zero x.no_nsolid)
    (more (from_zero x.n2o_nsolid)
    (more (from_zero x.n2_nliquid)
    (more (from_zero x.no_nliquid)
    (more (from_zero x.n2o_nliquid) none)))))))))))))))

pub house_not-below-zero : (h : Herd) → NotBelowZero house_names (herd_figures h)
unfolding figures_of
house_not-below-zero h = not_below (figures_in cutting (typed_of h))

-- ---- a farm

pub farm-totals-add : (f : Farm) → check_farm f ≡ Accepted → Adds (map herd_figures (herds_of f)) (farm_answer f).totals
unfolding farm_answer
farm-totals-add f e = rw e (totals-add (map herd_figures (herds_of f)))

pub herds_in-any-order : (f g : Farm) → check_farm f ≡ Accepted → check_farm g ≡ Accepted
    → Reordered (herds_of f) (herds_of g)
    → (farm_answer f).totals ≡ (farm_answer g).totals
unfolding farm_answer
herds_in-any-order f g af ag o = rw (af, ag) (totals_in-any-order (reordered_map herd_figures o))

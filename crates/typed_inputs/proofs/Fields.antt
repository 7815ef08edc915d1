-- The inputs of a kind from what the code read of its slots: each field is the one that its name means.
-- Assumes nothing.
use Prim.Native.Nat.{ℕ}
use mathlib.Core.Path.{◌≡◌, refl, ◌∙◌}
use lib.IntN.{ℤ}
use Rattle.inputs.specs.declared.Kind.TheVariants as kinds
use Rattle.farm.specs.declared.Herd.{Herd}
use Rattle.kinds.specs.declared.Entered.{Entered}
use Rattle.kinds.specs.declared.Entered.TheVariants as entered
use Rattle.kinds.specs.declared.CattleKind.{CattleKind}
use Rattle.kinds.specs.declared.CattleKind.TheVariants.{OtherCattle, DairyCow}
use Rattle.kinds.specs.declared.Cattle.{Cattle}
use Rattle.kinds.specs.declared.ExerciseYard.{ExerciseYard}
use Rattle.kinds.specs.declared.Floor.{Floor}
use Rattle.kinds.specs.declared.HousingType.{HousingType}
use Rattle.kinds.specs.declared.AirScrubber.{AirScrubber}
use Rattle.kinds.specs.declared.HousingFloor.{HousingFloor}
use Rattle.kinds.specs.declared.HousingAir.{HousingAir}
use Rattle.kinds.specs.declared.Outdoor.{Outdoor}
use Rattle.kinds.specs.Choices.{yard_at, floor_at, housing_at, scrubber_at, housing_floor_at, housing_air_at}
use Rattle.typed_inputs.specs.Typed.{tan_in, given_named, number_named, signed_named, entered_named}
use Rattle.typed_inputs.specs.Typed.{roughage_of, outdoor_of, cattle_of, pigs_of}

module _ (h : Herd) where
  pub is-roughage : (category animals days hours : ℕ) (free : ℤ) (n tan : Entered)
      → category ≡ number_named kinds.Roughage "animalcategory" h
      → animals ≡ number_named kinds.Roughage "animals" h
      → n ≡ entered_named kinds.Roughage "inp_n_excretion" h
      → tan ≡ entered_named kinds.Roughage "tan_fraction" h
      → free ≡ signed_named kinds.Roughage "free_correction_factor" h
      → days ≡ number_named kinds.Roughage "grazing_days" h
      → hours ≡ number_named kinds.Roughage "grazing_hours" h
      → record {
        animalcategory = category;
        animals = animals;
        inp_n_excretion = n;
        tan_fraction = tan;
        free_correction_factor = free;
        grazing_days = days;
        grazing_hours = hours;
      }
      ≡ roughage_of h
  unfolding roughage_of
  is-roughage category animals days hours free n tan e0 e1 e2 e3 e4 e5 e6 = rw (e0, e1, e2, e3, e4, e5, e6)

  pub is-outdoor : (yard-days at-yard at-floor days hours : ℕ) (free : ℤ) (yard : ExerciseYard) (floor : Floor)
      → yard-days ≡ number_named kinds.Cattle "yard_days" h
      → at-yard ≡ number_named kinds.Cattle "exercise_yard" h → yard ≡ yard_at at-yard
      → at-floor ≡ number_named kinds.Cattle "floor_properties_exercise_yard" h → floor ≡ floor_at at-floor
      → free ≡ signed_named kinds.Cattle "free_correction_factor" h
      → days ≡ number_named kinds.Cattle "grazing_days" h
      → hours ≡ number_named kinds.Cattle "grazing_hours" h
      → record {
        yard_days = yard-days;
        exercise_yard = yard;
        floor_properties_exercise_yard = floor;
        free_correction_factor = free;
        grazing_days = days;
        grazing_hours = hours;
      }
      ≡ outdoor_of kinds.Cattle h
  unfolding outdoor_of
  is-outdoor yard-days at-yard at-floor days hours free yard floor e3 e4 ey e5 ef e6 e7 e8 =
      rw (ey, ef, e3, e4, e5, e6, e7, e8)

  -- both kinds with a yard have their inputs in the same slots
  abbrev pub in_slots : CattleKind → Cattle
  in_slots k =
      record {
        kind = k;
        animals = number_named kinds.Cattle "animals" h;
        inp_n_excretion = number_named kinds.Cattle "inp_n_excretion" h;
        tan_fraction = tan_in k (given_named kinds.Cattle "tan_fraction" h);
        outdoor = outdoor_of kinds.Cattle h;
      }

  pub in_slots_lem : (k : CattleKind) → cattle_of k h ≡ in_slots k
  unfolding cattle_of outdoor_of
  in_slots_lem OtherCattle = refl
  in_slots_lem DairyCow = refl

  pub is-cattle : (k : CattleKind) (animals n : ℕ) (tan : Entered) (o : Outdoor)
      → animals ≡ number_named kinds.Cattle "animals" h
      → n ≡ number_named kinds.Cattle "inp_n_excretion" h
      → tan ≡ tan_in k (given_named kinds.Cattle "tan_fraction" h)
      → o ≡ outdoor_of kinds.Cattle h
      → record { kind = k; animals = animals; inp_n_excretion = n; tan_fraction = tan; outdoor = o } ≡ cattle_of k h
  is-cattle k animals n tan o e0 e1 e2 eo = rw (in_slots_lem k, e0, e1, e2, eo)

  -- the TAN of each kind of cattle
  pub tan-number : (k : CattleKind) → k ≡ OtherCattle → (n : ℕ) → n ≡ number_named kinds.Cattle "tan_fraction" h
      → entered.Number n ≡ tan_in k (given_named kinds.Cattle "tan_fraction" h)
  tan-number k e n en = rw (e, en)

  pub tan-entered : (k : CattleKind) → k ≡ DairyCow → (tan : Entered)
      → tan ≡ entered_named kinds.Cattle "tan_fraction" h
      → tan ≡ tan_in k (given_named kinds.Cattle "tan_fraction" h)
  tan-entered k e tan et = rw (e, et)

  pub is-pigs : (animals n tan at-type at-scrubber at-floor at-air : ℕ) (free : ℤ)
      (type : HousingType) (scrubber : AirScrubber) (floor : HousingFloor) (air : HousingAir)
      → animals ≡ number_named kinds.Pigs "animals" h
      → n ≡ number_named kinds.Pigs "inp_n_excretion" h
      → tan ≡ number_named kinds.Pigs "tan_fraction" h
      → at-type ≡ number_named kinds.Pigs "housing_type" h → type ≡ housing_at at-type
      → at-scrubber ≡ number_named kinds.Pigs "air_scrubber" h → scrubber ≡ scrubber_at at-scrubber
      → at-floor ≡ number_named kinds.Pigs "mitigation_housing_floor" h → floor ≡ housing_floor_at at-floor
      → at-air ≡ number_named kinds.Pigs "mitigation_housing_air" h → air ≡ housing_air_at at-air
      → free ≡ signed_named kinds.Pigs "free_correction_factor" h
      → record {
        animals = animals;
        inp_n_excretion = n;
        tan_fraction = tan;
        housing_type = type;
        air_scrubber = scrubber;
        mitigation_housing_floor = floor;
        mitigation_housing_air = air;
        free_correction_factor = free;
      }
      ≡ pigs_of h
  unfolding pigs_of
  is-pigs animals n tan at-type at-scrubber at-floor at-air free type scrubber floor air
      e0 e1 e2 e3 et e4 es e5 ef e6 ea e7 =
      rw (et, es, ef, ea, e0, e1, e2, e3, e4, e5, e6, e7)

pub ruleset fields = (is-roughage, is-outdoor, is-cattle, is-pigs)

pub ruleset tans = (tan-number, tan-entered)

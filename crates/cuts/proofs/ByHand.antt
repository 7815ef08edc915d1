-- 02, W7: the cuts of four herds, worked out by hand: the three of `examples/odd.csv`, and pigs with a biotrickling
-- filter (`worked-label` of crate `pig_house`). A change of a formula that no figure shows, another unit, another name
-- or a cut more or less, is refused here even where the table of dividends goes with it. Assumes nothing.
use Prim.Native.Nat.{ℕ}
use Prim.Native.String.{String}
use mathlib.Core.Path.{◌≡◌, refl}
use mathlib.Core.List.{List, [], ◌∷◌, ◌++◌, map}
use lib.ListN.{get_or}
use lib.IntN.{pos}
use Rattle.tables.specs.Standards.{standard_of}
use Rattle.tables.specs.Growth.{exp_num, exp_den, growth_num, growth_den, nearest, k_at, within_day, k_of}
use Rattle.kinds.specs.declared.Entered.TheVariants.{Standard, Number}
use Rattle.kinds.specs.declared.Roughage.{Roughage}
use Rattle.kinds.specs.declared.ExerciseYard.TheVariants.{Exclusively}
use Rattle.kinds.specs.declared.Floor.TheVariants.{Perforated}
use Rattle.kinds.specs.declared.CattleKind.TheVariants.{OtherCattle}
use Rattle.kinds.specs.declared.Cattle.{Cattle}
use Rattle.kinds.specs.declared.HousingType.TheVariants.{SlurryLabel}
use Rattle.kinds.specs.declared.AirScrubber.TheVariants.{Biotrickling}
use Rattle.kinds.specs.declared.HousingFloor.TheVariants as floor
use Rattle.kinds.specs.declared.HousingAir.TheVariants.{LowImpulsAirSupply}
use Rattle.kinds.specs.declared.Pigs.{Pigs}
use Rattle.kinds.specs.declared.Inputs.{Inputs}
use Rattle.kinds.specs.declared.Inputs.TheVariants as kinds
use Rattle.yard.specs.Yard.{
  yard_time,
  share_lowered,
  share_excretion_with_grazing,
  days_with_grazing_and_yard,
}
use Rattle.pasture.specs.Pasture.{outdoor_grazing_time, roughage_grazing_time}
use Rattle.cuts.specs.declared.Cuts.{Cuts}
use Rattle.cuts.specs.Names.{Row, rows, cut_number}
use Rattle.cuts.specs.Cuts.{cut_off, divisor_of, names_made}
use Rattle.cuts.specs.Herd.{cuts_of}

-- a cut: its name, what was cut off, and the divisor; and the section that it is listed under
pub record Cut : Type 0 where
  pub name : String
  pub off : ℕ
  pub by : ℕ

pub record Shown : Type 0 where
  pub section : String
  pub cut : Cut

infix 68 ◌cut◌by◌
abbrev ◌cut◌by◌ : String → ℕ → ℕ → Cut
t cut off by d = record { name = t; off = off; by = d }

abbrev under : String → List Cut → List Shown
under section cuts = map (λ (c : Cut). record { section = section; cut = c }) cuts

abbrev section_under : String → String
section_under t = get_or (map (λ (r : Row). r.section) rows) (cut_number t) ""

abbrev shown : Cuts → String → Shown
shown c t = record { section = section_under t; cut = t cut cut_off t c by divisor_of t c }

abbrev pub cuts_shown : Inputs → List Shown
cuts_shown i = map (shown (cuts_of i)) (names_made (cuts_of i))

-- 23 head, 41.3 kg, TAN 55 percent; a yard on 341 days, roughage exclusively supplied there, perforated floor, free 5;
-- 210 days of 9.5 hours on pasture
abbrev heifers : Cattle
heifers =
    record {
      kind = OtherCattle;
      animals = 23;
      inp_n_excretion = 41_300;
      tan_fraction = Number 5500;
      outdoor =
          record {
            yard_days = 341;
            exercise_yard = Exclusively;
            floor_properties_exercise_yard = Perforated;
            free_correction_factor = pos 5;
            grazing_days = 210;
            grazing_hours = 95;
          };
    }

pub heifers-cuts :
    cuts_shown (kinds.Cattle heifers)
    ≡ under "Excretion" ("tan_excretion" cut 0 by 10_000 ∷ [])
    ++ under "Yard"
    ("n_into_yard" cut 150 by 3_650
    ∷ "tan_into_yard" cut 2_090 by 3_650
    ∷ "nh3_nyard" cut 68_250_000 by 100_000_000
    ∷ [])
    ++ under "Grazing"
    ("n_into_grazing" cut 576_000 by 876_000
    ∷ "tan_into_grazing" cut 667_200 by 876_000
    ∷ "nh3_ngrazing" cut 320 by 10_000
    ∷ "n2_ngrazing" cut 0 by 10_000
    ∷ "no_ngrazing" cut 440 by 10_000
    ∷ "n2o_ngrazing" cut 1_600 by 10_000
    ∷ [])
unfolding cuts_of yard_time outdoor_grazing_time share_lowered share_excretion_with_grazing days_with_grazing_and_yard
heifers-cuts = refl

-- 14 red deer at the standards, free 5, 200 days of 9.5 hours on pasture: 8,760 − 1,900 hours in the housing
abbrev deer_inside : Roughage
deer_inside =
    record {
      animalcategory = 1;
      animals = 14;
      inp_n_excretion = Standard;
      tan_fraction = Standard;
      free_correction_factor = pos 5;
      grazing_days = 200;
      grazing_hours = 95;
    }

pub deer-inside-cuts :
    cuts_shown (kinds.Roughage deer_inside)
    ≡ under "Excretion" ("tan_excretion" cut 0 by 10_000 ∷ [])
    ++ under "Grazing"
    ("n_into_grazing" cut 16_400 by 87_600
    ∷ "tan_into_grazing" cut 41_600 by 87_600
    ∷ "nh3_ngrazing" cut 0 by 10_000
    ∷ "n2_ngrazing" cut 0 by 10_000
    ∷ "no_ngrazing" cut 355 by 10_000
    ∷ "n2o_ngrazing" cut 6_100 by 10_000
    ∷ [])
    ++ under "Housing"
    ("c_grazing" cut 50_200 by 68_600
    ∷ "ef_nh3_nhousing:er_housing" cut 450 by 1_000
    ∷ "ef_nh3_nhousing:c_free_factor_housing" cut 65 by 100
    ∷ "nh3_nhousing" cut 173_636_784 by 1_000_000_000
    ∷ [])
unfolding cuts_of standard_of roughage_grazing_time k_of within_day k_at nearest growth_num growth_den exp_num exp_den
deer-inside-cuts = refl

-- 14 red deer of 41.7 kg, TAN 40.5 percent, free 0, on pasture for the whole year: c is 1, and no cut
abbrev deer_outside : Roughage
deer_outside =
    record {
      animalcategory = 1;
      animals = 14;
      inp_n_excretion = Number 41_700;
      tan_fraction = Number 4050;
      free_correction_factor = pos 0;
      grazing_days = 365;
      grazing_hours = 240;
    }

pub deer-outside-cuts :
    cuts_shown (kinds.Roughage deer_outside)
    ≡ under "Excretion" ("tan_excretion" cut 0 by 10_000 ∷ [])
    ++ under "Grazing"
    ("n_into_grazing" cut 0 by 87_600
    ∷ "tan_into_grazing" cut 0 by 87_600
    ∷ "nh3_ngrazing" cut 8_750 by 10_000
    ∷ "n2_ngrazing" cut 0 by 10_000
    ∷ "no_ngrazing" cut 9_000 by 10_000
    ∷ "n2o_ngrazing" cut 0 by 10_000
    ∷ [])
    ++ under "Housing"
    ("ef_nh3_nhousing:er_housing" cut 0 by 1_000
    ∷ "ef_nh3_nhousing:c_free_factor_housing" cut 0 by 100
    ∷ "nh3_nhousing" cut 0 by 1_000_000_000
    ∷ [])
unfolding cuts_of roughage_grazing_time
deer-outside-cuts = refl

-- 97 pigs of 11.025 kg, TAN 70 percent, low impulse air supply, free 7: 748,597 g of TAN, 0.35 of it 262,008 g
abbrev label : Pigs
label =
    record {
      animals = 97;
      inp_n_excretion = 11_025;
      tan_fraction = 7000;
      housing_type = SlurryLabel;
      air_scrubber = Biotrickling;
      mitigation_housing_floor = floor.None;
      mitigation_housing_air = LowImpulsAirSupply;
      free_correction_factor = pos 7;
    }

pub label-cuts :
    cuts_shown (kinds.Pigs label)
    ≡ under "Excretion" ("tan_excretion" cut 5_000 by 10_000 ∷ [])
    ++ under "Grazing"
    ("nh3_ngrazing" cut 0 by 10_000
    ∷ "n2_ngrazing" cut 0 by 10_000
    ∷ "no_ngrazing" cut 0 by 10_000
    ∷ "n2o_ngrazing" cut 0 by 10_000
    ∷ [])
    ++ under "Housing"
    ("ef_housing_indoor_before_air_scrubber:c_free_factor_housing" cut 0 by 100
    ∷ "ef_housing_indoor_before_air_scrubber:red_housing_air" cut 0 by 10
    ∷ "ef_housing_indoor" cut 0 by 10
    ∷ "ef_housing_grazing:c_free_factor_housing" cut 0 by 100
    ∷ "ef_nh3_nhousing:ef_housing_indoor" cut 0 by 10
    ∷ "ef_nh3_nhousing:ef_housing_grazing" cut 0 by 10
    ∷ "nh3_nhousing" cut 540_677_200 by 1_000_000_000
    ∷ "tan_air_scrubber:tan_excretion" cut 950_000_000 by 1_000_000_000
    ∷ "tan_air_scrubber:ef_housing_indoor_before_air_scrubber" cut 900_672_000 by 1_000_000_000
    ∷ [])
    ++ under "NxOx"
    ("n2_nsolid" cut 0 by 10_000
    ∷ "no_nsolid" cut 0 by 10_000
    ∷ "n2o_nsolid" cut 0 by 10_000
    ∷ "n2_nliquid" cut 5_000 by 10_000
    ∷ "no_nliquid" cut 8_500 by 10_000
    ∷ "n2o_nliquid" cut 8_500 by 10_000
    ∷ [])
unfolding cuts_of
label-cuts = refl

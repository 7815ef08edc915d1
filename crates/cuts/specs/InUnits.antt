-- 02, W7: what each cut of a herd divides, and by what, name by name, as 01, Steps and cuts, words the step. "In the
-- dividends shares and hours count in tenths, floor and free in percent, rates in ten-thousandths, 0.275 in
-- thousandths." The factors of a housing count in billionths (01; 02, W1), and so does share_indoor × red_air_scrubber,
-- which is one; the measures that are multiplied into a factor count in tenths. No figure and no cut is made from this
-- table: that the formulas make these divisions is `cuts_in_units_lem`. To be believed.
use Rattle.std.specs.Prelude.{ℕ, ◌+◌, ◌-◌, ◌*◌, List, [], ◌∷◌, ◌++◌, ltb}
use Prim.Native.String.{String}
use Rattle.base.specs.Pick.{pick}
use Rattle.cut_division.specs.Cut.{least}
use Rattle.tables.specs.Growth.{k_of}
use Rattle.amounts.specs.Arithmetic.{cutting}
use Rattle.kinds.specs.declared.Roughage.{Roughage}
use Rattle.kinds.specs.declared.Cattle.{Cattle}
use Rattle.kinds.specs.declared.AirScrubber.{AirScrubber}
use Rattle.kinds.specs.declared.AirScrubber.TheVariants as scrubber
use Rattle.kinds.specs.declared.Pigs.{Pigs}
use Rattle.kinds.specs.declared.Inputs.{Inputs}
use Rattle.kinds.specs.declared.Inputs.TheVariants as kinds
use Rattle.kinds.specs.Free.{c_free_factor}
use Rattle.rates.specs.declared.Rates.{Rates}
use Rattle.rates.specs.Rates.{cattle_rates, pigs_rates, roughage_rates}
use Rattle.excretion.specs.Excretion.{n_excretion_animal, roughage_fraction, cattle_fraction}
use Rattle.yard.specs.Yard.{yard_time, rate_floor_free}
use Rattle.pasture.specs.Pasture.{outdoor_grazing_time}
use Rattle.pig_house.specs.declared.NxOxRates.{NxOxRates}
use Rattle.pig_house.specs.Parameters.{
  er_housing,
  share_liquid,
  share_indoor,
  c_area,
  red_air_scrubber,
  red_housing_floor,
  red_housing_air,
  rates_of,
}
use Rattle.pig_house.specs.PigHouse.{all_or_nothing}
use Rattle.cuts.specs.Herd.{quotient_under}
use Rattle.cuts.specs.Divisions.{Named}

infix 68 ◌cuts◌by◌
abbrev pub ◌cuts◌by◌ : String → ℕ → ℕ → Named
t cuts a by b = record { name = t; division = record { dividend = a; divisor = b } }

-- a factor, at most 1
abbrev capped : ℕ → ℕ
capped f = least f 1_000_000_000

module _ (i : Inputs) where
  -- what the cut of a name gives, grams or a factor; where none is made, what stands in its place
  abbrev q : String → ℕ
  q t = quotient_under t i

  -- NH3 of the TAN on pasture, N2, NO and N2O of the N
  abbrev gases : Rates → List Named
  gases r =
      "nh3_ngrazing" cuts q "tan_into_grazing" * r.nh3 by 10_000
      ∷ "n2_ngrazing" cuts q "n_into_grazing" * r.n2 by 10_000
      ∷ "no_ngrazing" cuts q "n_into_grazing" * r.no by 10_000
      ∷ "n2o_ngrazing" cuts q "n_into_grazing" * r.n2o by 10_000
      ∷ []

  -- ---- roughage-consuming animals

  -- c_grazing: with days × hours below 8,760 a cut, else 1
  abbrev growth : ℕ → ℕ → List Named
  growth days hours =
      let grown = (365 - days) * 240 * 1_000_000_000 + days * (240 - hours) * k_of hours in
      pick (ltb (days * hours) 87_600) ("c_grazing" cuts grown by (87_600 - hours * days) ∷ []) []

  abbrev of_roughage : Roughage → List Named
  of_roughage r =
      let n = r.animals * n_excretion_animal r.animalcategory r.inp_n_excretion in
      let time = r.grazing_hours * r.grazing_days in
      let free = c_free_factor r.free_correction_factor in
      let housed = q "tan_excretion" - q "tan_into_grazing" in
      ("tan_excretion" cuts n * roughage_fraction r by 10_000
      ∷ "n_into_grazing" cuts n * time by 87_600
      ∷ "tan_into_grazing" cuts q "tan_excretion" * time by 87_600
      ∷ gases roughage_rates)
      ++ growth r.grazing_days r.grazing_hours
      ++ ("ef_nh3_nhousing:er_housing" cuts q "c_grazing" * 275 by 1_000
      ∷ "ef_nh3_nhousing:c_free_factor_housing" cuts q "ef_nh3_nhousing:er_housing" * free by 100
      ∷ "nh3_nhousing" cuts housed * capped (q "ef_nh3_nhousing:c_free_factor_housing") by 1_000_000_000
      ∷ [])

  -- ---- cattle

  abbrev of_cattle : Cattle → List Named
  of_cattle c =
      let n = c.animals * c.inp_n_excretion in
      let o = c.outdoor in
      "tan_excretion" cuts n * cattle_fraction c by 10_000
      ∷ "n_into_yard" cuts n * yard_time o by 3_650
      ∷ "tan_into_yard" cuts q "tan_excretion" * yard_time o by 3_650
      ∷ "nh3_nyard" cuts q "tan_into_yard" * least (rate_floor_free o) 100_000_000 by 100_000_000
      ∷ "n_into_grazing" cuts n * outdoor_grazing_time o by 876_000
      ∷ "tan_into_grazing" cuts q "tan_excretion" * outdoor_grazing_time o by 876_000
      ∷ gases (cattle_rates c.kind)

  -- ---- pigs

  abbrev before : ℕ
  before = capped (q "ef_housing_indoor_before_air_scrubber:red_housing_air")

  -- what 2.51 multiplies into er_housing, one after the other
  abbrev factors : Pigs → List Named
  factors p =
      let er = er_housing p.housing_type in
      let free = c_free_factor p.free_correction_factor in
      let floor = 1 - red_housing_floor p.mitigation_housing_floor in
      let air = 10 - red_housing_air p.mitigation_housing_air in
      let scrubbed = 10 - red_air_scrubber p.air_scrubber in
      let share = share_indoor p.housing_type in
      let with_free = q "ef_housing_indoor_before_air_scrubber:c_free_factor_housing" in
      let indoor = capped (q "ef_housing_indoor") in
      let grazing = capped (q "ef_housing_grazing:c_free_factor_housing") in
      "ef_housing_indoor_before_air_scrubber:c_free_factor_housing" cuts er * c_area * free by 100
      ∷ "ef_housing_indoor_before_air_scrubber:red_housing_air" cuts with_free * (floor * air) by 10
      ∷ "ef_housing_indoor" cuts before * scrubbed by 10
      ∷ "ef_housing_grazing:c_free_factor_housing" cuts er * (free * c_area) by 100
      ∷ "ef_nh3_nhousing:ef_housing_indoor" cuts indoor * share by 10
      ∷ "ef_nh3_nhousing:ef_housing_grazing" cuts grazing * (10 - share) by 10
      ∷ []

  -- share_indoor × red_air_scrubber is in hundredths, and so many billionths
  abbrev filtered : Pigs → List Named
  filtered p =
      let share = share_indoor p.housing_type * red_air_scrubber p.air_scrubber * 10_000_000 in
      let reached = q "tan_air_scrubber:tan_excretion" in
      "tan_air_scrubber:tan_excretion" cuts share * q "tan_excretion" by 1_000_000_000
      ∷ "tan_air_scrubber:ef_housing_indoor_before_air_scrubber" cuts reached * before by 1_000_000_000
      ∷ []

  -- only a biotrickling filter keeps something
  abbrev kept_back : AirScrubber → Pigs → List Named
  kept_back scrubber.Acid p = []
  kept_back scrubber.Biotrickling p = filtered p
  kept_back scrubber.None p = []

  abbrev nx_ox : ℕ → ℕ → NxOxRates → List Named
  nx_ox solid liquid r =
      "n2_nsolid" cuts solid * r.er_n2_nsolid by 10_000
      ∷ "no_nsolid" cuts solid * r.er_no_nsolid by 10_000
      ∷ "n2o_nsolid" cuts solid * r.er_n2o_nsolid by 10_000
      ∷ "n2_nliquid" cuts liquid * r.er_n2_nliquid by 10_000
      ∷ "no_nliquid" cuts liquid * r.er_no_nliquid by 10_000
      ∷ "n2o_nliquid" cuts liquid * r.er_n2o_nliquid by 10_000
      ∷ []

  abbrev of_pigs : Pigs → List Named
  of_pigs p =
      let n = p.animals * p.inp_n_excretion in
      let housed = n - q "n_into_grazing" in
      let tan_housed = q "tan_excretion" - q "tan_into_grazing" in
      let ef = capped (q "ef_nh3_nhousing:ef_housing_indoor" + q "ef_nh3_nhousing:ef_housing_grazing") in
      let share = share_liquid p.housing_type in
      ("tan_excretion" cuts n * p.tan_fraction by 10_000 ∷ gases pigs_rates)
      ++ factors p
      ++ ("nh3_nhousing" cuts tan_housed * ef by 1_000_000_000 ∷ kept_back p.air_scrubber p)
      ++ nx_ox (all_or_nothing cutting (1 - share) housed) (all_or_nothing cutting share housed)
      (rates_of p.housing_type)

abbrev pub cuts_in_units : Inputs → List Named
cuts_in_units (kinds.Roughage r) = of_roughage (kinds.Roughage r) r
cuts_in_units (kinds.Cattle c) = of_cattle (kinds.Cattle c) c
cuts_in_units (kinds.Pigs p) = of_pigs (kinds.Pigs p) p

-- 2.51 to 2.60 (02, W1): the housing of fattening pigs, its ammonia, what an air scrubber keeps back, and what leaves
-- the house as slurry and as solid manure. "Factors in billionths and amounts in grams are cut after each product, in
-- the order of the source formula"; a product with exactly 1 or 0 divides nothing. To be believed.
use Rattle.std.specs.Prelude.{ℕ, zero, suc, ◌-◌, ◌*◌}
use Rattle.amounts.specs.Units.{tenths, percent, billionths}
use Rattle.amounts.specs.Arithmetic.{Arithmetic}
use Rattle.amounts.specs.Dividing.{dividing, handed, worth}
use Rattle.amounts.specs.Portion.{portion}
use Rattle.kinds.specs.declared.HousingType.{HousingType}
use Rattle.kinds.specs.declared.AirScrubber.{AirScrubber}
use Rattle.kinds.specs.declared.AirScrubber.TheVariants as scrubber
use Rattle.kinds.specs.declared.Pigs.{Pigs}
use Rattle.housing.specs.Housing.{HousingIn, c_free_factor_housing}
use Rattle.pig_house.specs.declared.PigFactors.{PigFactors}
use Rattle.pig_house.specs.declared.Scrubbed.{Scrubbed}
use Rattle.pig_house.specs.declared.PigHouse.{PigHouse}
use Rattle.pig_house.specs.Parameters.{
  er_housing,
  share_liquid,
  share_indoor,
  c_area,
  red_air_scrubber,
  red_housing_floor,
  red_housing_air,
  hundredth,
}

-- what ef_nh3_nhousing is made of, each as it is cut
pub record PigFactorsIn (A : Arithmetic) : Type 0 where
  pub before_times_c_free_factor_housing : A.Amount
  pub before_times_red_housing_air : A.Amount
  pub ef_housing_indoor : A.Amount
  pub grazing_times_c_free_factor_housing : A.Amount
  pub times_ef_housing_indoor : A.Amount
  pub times_ef_housing_grazing : A.Amount

-- and tan_air_scrubber
pub record ScrubbedIn (A : Arithmetic) : Type 0 where
  pub times_tan_excretion : A.Amount
  pub times_ef_housing_indoor_before_air_scrubber : A.Amount

-- what a pig house has beside what every house has
pub record PigHouseIn (A : Arithmetic) : Type 0 where
  pub tan_air_scrubber : A.Amount
  pub n_outhousing_liquid : A.Amount
  pub tan_outhousing_liquid : A.Amount
  pub n_outhousing_solid : A.Amount
  pub tan_outhousing_solid : A.Amount

module _ (A : Arithmetic) where
  open A use {Amount, whole, ◌⊕◌, ◌⊖◌, ◌⊗◌, ◌over◌, ◌at_most◌}

  infixl 7 ◌⊗◌
  infixl 6 ◌⊕◌
  infixl 6 ◌⊖◌
  infixl 5 ◌over◌
  infixl 4 ◌at_most◌
  -- an amount times 1 or 0
  abbrev pub all_or_nothing : ℕ → Amount → Amount
  all_or_nothing zero amount = whole 0
  all_or_nothing (suc share) amount = amount

  -- ---- the emission factor, in billionths

  -- ef_housing_indoor_before_air_scrubber: er_housing × c_area × c_free_factor_housing, then what floor and air leave
  abbrev pub before_with_free : Pigs → Amount
  before_with_free p =
      portion A (whole (er_housing p.housing_type * c_area))
      (c_free_factor_housing p.free_correction_factor) percent

  abbrev pub before_with_air : Pigs → Amount
  before_with_air p =
      portion A (before_with_free p)
      ((1 - red_housing_floor p.mitigation_housing_floor)
      * (tenths - red_housing_air p.mitigation_housing_air)) tenths

  -- and then the ceiling of 1
  abbrev pub ef_housing_indoor_before_air_scrubber : Pigs → Amount
  ef_housing_indoor_before_air_scrubber p = before_with_air p at_most billionths

  -- ef_housing_indoor: that × (1 - red_air_scrubber), and then the ceiling of 1 (02, W3)
  abbrev pub with_scrubber : Pigs → Amount
  with_scrubber p =
      portion A (ef_housing_indoor_before_air_scrubber p)
      (tenths - red_air_scrubber p.air_scrubber) tenths

  abbrev pub ef_housing_indoor : Pigs → Amount
  ef_housing_indoor p = with_scrubber p at_most billionths

  -- ef_housing_grazing: er_housing × c_free_factor_housing × c_area, and then the ceiling of 1
  abbrev pub grazing_with_free : Pigs → Amount
  grazing_with_free p =
      portion A (whole (er_housing p.housing_type))
      (c_free_factor_housing p.free_correction_factor * c_area) percent

  abbrev pub ef_housing_grazing : Pigs → Amount
  ef_housing_grazing p = grazing_with_free p at_most billionths

  -- ef_nh3_nhousing: share_indoor × ef_housing_indoor + (1 - share_indoor) × ef_housing_grazing, and then the ceiling
  -- of 1 (02, W3)
  abbrev pub indoor_part : Pigs → Amount
  indoor_part p = portion A (ef_housing_indoor p) (share_indoor p.housing_type) tenths

  abbrev pub grazing_part : Pigs → Amount
  grazing_part p = portion A (ef_housing_grazing p) (tenths - share_indoor p.housing_type) tenths

  abbrev pub ef_nh3_nhousing : Pigs → Amount
  ef_nh3_nhousing p = indoor_part p ⊕ grazing_part p at_most billionths

  abbrev pub pig_factors : Pigs → PigFactorsIn A
  pig_factors p =
      record {
        before_times_c_free_factor_housing = before_with_free p;
        before_times_red_housing_air = before_with_air p;
        ef_housing_indoor = with_scrubber p;
        grazing_times_c_free_factor_housing = grazing_with_free p;
        times_ef_housing_indoor = indoor_part p;
        times_ef_housing_grazing = grazing_part p;
      }

  -- ---- the amounts

  -- nh3_nhousing, of so much TAN in the housing
  abbrev pub nh3_in_pig_house : Pigs → Amount → Amount
  nh3_in_pig_house p tan = tan ⊗ ef_nh3_nhousing p over billionths

  -- tan_air_scrubber of a biotrickling filter, where the herd excretes so much TAN: share_indoor × red_air_scrubber ×
  -- tan_excretion × ef_housing_indoor_before_air_scrubber
  abbrev pub scrubbed_tan : Pigs → Amount → Amount
  scrubbed_tan p tan =
      whole (share_indoor p.housing_type * red_air_scrubber p.air_scrubber * hundredth) ⊗ tan
      over billionths

  abbrev pub scrubbed_of : Pigs → Amount → ScrubbedIn A
  scrubbed_of p tan =
      record {
        times_tan_excretion = scrubbed_tan p tan;
        times_ef_housing_indoor_before_air_scrubber =
            scrubbed_tan p tan ⊗ ef_housing_indoor_before_air_scrubber p over billionths;
      }

  -- "n in acid scrubber adds 100% to flux into storage": only a biotrickling filter keeps something
  abbrev pub kept_by : AirScrubber → Amount → Amount
  kept_by scrubber.Acid amount = whole 0
  kept_by scrubber.Biotrickling amount = amount
  kept_by scrubber.None amount = whole 0

  abbrev pub tan_air_scrubber : Pigs → Amount → Amount
  tan_air_scrubber p tan =
      kept_by p.air_scrubber (scrubbed_of p tan).times_ef_housing_indoor_before_air_scrubber

  -- each product on the way, where it is made
  abbrev pub kept_back : Pigs → Amount → ScrubbedIn A
  kept_back p tan =
      record {
        times_tan_excretion = kept_by p.air_scrubber (scrubbed_tan p tan);
        times_ef_housing_indoor_before_air_scrubber = tan_air_scrubber p tan;
      }

  -- n_outhousing and tan_outhousing: what came in, less the ammonia and what the scrubber keeps
  abbrev pub through_pig_house : Amount → Amount → Amount → Amount → HousingIn A
  through_pig_house n tan nh3 scrubbed =
      record {
        n_into_housing = n;
        tan_into_housing = tan;
        nh3_nhousing = nh3;
        n_outhousing = n ⊖ nh3 ⊖ scrubbed;
        tan_outhousing = tan ⊖ nh3 ⊖ scrubbed;
      }

  -- n_ and tan_outhousing_liquid by share_liquid; n_ and tan_outhousing_solid are the rest
  abbrev pub in_fractions : HousingType → Amount → Amount → Amount → PigHouseIn A
  in_fractions t scrubbed n tan =
      record {
        tan_air_scrubber = scrubbed;
        n_outhousing_liquid = all_or_nothing (share_liquid t) n;
        tan_outhousing_liquid = all_or_nothing (share_liquid t) tan;
        n_outhousing_solid = n ⊖ all_or_nothing (share_liquid t) n;
        tan_outhousing_solid = tan ⊖ all_or_nothing (share_liquid t) tan;
      }

  -- the house of a herd that excretes so much TAN, into which so much N and TAN goes
  abbrev pub pig_housing : Pigs → Amount → Amount → Amount → HousingIn A
  pig_housing p excreted n tan = through_pig_house n tan (nh3_in_pig_house p tan) (tan_air_scrubber p excreted)

  abbrev pub pig_house : Pigs → Amount → Amount → Amount → PigHouseIn A
  pig_house p excreted n tan =
      let house = pig_housing p excreted n tan in
      in_fractions p.housing_type (tan_air_scrubber p excreted) house.n_outhousing house.tan_outhousing

  -- a kind without such a house
  abbrev pub no_pig_house : PigHouseIn A
  no_pig_house =
      record {
        tan_air_scrubber = whole 0;
        n_outhousing_liquid = whole 0;
        tan_outhousing_liquid = whole 0;
        n_outhousing_solid = whole 0;
        tan_outhousing_solid = whole 0;
      }

  abbrev pub no_pig_factors : PigFactorsIn A
  no_pig_factors =
      record {
        before_times_c_free_factor_housing = whole 0;
        before_times_red_housing_air = whole 0;
        ef_housing_indoor = whole 0;
        grazing_times_c_free_factor_housing = whole 0;
        times_ef_housing_indoor = whole 0;
        times_ef_housing_grazing = whole 0;
      }

  abbrev pub no_scrubbed : ScrubbedIn A
  no_scrubbed = record { times_tan_excretion = whole 0; times_ef_housing_indoor_before_air_scrubber = whole 0 }

-- ---- the code's structs

-- the factors as they are handed on, each with what was cut off
abbrev pub handed_pig_factors : PigFactorsIn dividing → PigFactors
handed_pig_factors f =
    record {
      before_times_c_free_factor_housing = handed f.before_times_c_free_factor_housing;
      before_times_red_housing_air = handed f.before_times_red_housing_air;
      ef_housing_indoor = handed f.ef_housing_indoor;
      grazing_times_c_free_factor_housing = handed f.grazing_times_c_free_factor_housing;
      times_ef_housing_indoor = handed f.times_ef_housing_indoor;
      times_ef_housing_grazing = handed f.times_ef_housing_grazing;
    }

abbrev pub handed_scrubbed : ScrubbedIn dividing → Scrubbed
handed_scrubbed s =
    record {
      times_tan_excretion = handed s.times_tan_excretion;
      times_ef_housing_indoor_before_air_scrubber = handed s.times_ef_housing_indoor_before_air_scrubber;
    }

-- the house, beside its factors and what its scrubber keeps
abbrev pub handed_pig_house : PigFactorsIn dividing → Scrubbed → PigHouseIn dividing → PigHouse
handed_pig_house f s h =
    record {
      factors = handed_pig_factors f;
      scrubbed = s;
      n_outhousing_liquid = worth h.n_outhousing_liquid;
      tan_outhousing_liquid = worth h.tan_outhousing_liquid;
      n_outhousing_solid = worth h.n_outhousing_solid;
      tan_outhousing_solid = worth h.tan_outhousing_solid;
    }

-- The numbers that 001 prints, as it prints them, in its order of sections: each with its name there and the parameter
-- that the formulas use. Of these sections every technical parameter is here but k_grazing_a, 0.9989, which stands in
-- no formula, k_area, 0.5, whose area_increase is 0 (02, W1), and feed_influence_on_Nsol, 1, of a `standard` N that
-- dairy cows do not have (02, W9); and of the numbers inside their formulas those that
-- have a name in ours. The theorem over the table is `every-parameter-printed` of proofs/Printed; `second/printed.py`
-- looks each name and text up in 001.
use Rattle.std.specs.Prelude.{ℕ, ◌^◌, List, [], ◌∷◌, ◌++◌, map, ◌≡◌, get_or, Some}
use Prim.Native.String.{String}
use Rattle.base.specs.Text.{bytes}
use Rattle.numbers.specs.Reading.{number_of}
use Rattle.words.specs.Find.{place_in}
use Rattle.names.specs.Names.{yards, floors, housing_types, air_scrubbers, housing_floors, housing_airs}
use Rattle.tables.specs.Standards.{◌kg, standard_of, share_Nsol, dairy_standard, dairy_share}
use Rattle.tables.specs.Growth.{k_grazing_b}
use Rattle.amounts.specs.Units.{tenths, percent, thousandths, ten_thousandths, billionths, year, day}
use Rattle.kinds.specs.declared.HousingType.{HousingType}
use Rattle.kinds.specs.declared.CattleKind.TheVariants.{OtherCattle, DairyCow}
use Rattle.kinds.specs.Choices.{yard_choices, floor_choices, housing_choices, scrubber_choices, housing_floor_choices}
use Rattle.kinds.specs.Choices.{housing_air_choices}
use Rattle.rates.specs.Rates.{cattle_rates, pigs_rates, roughage_rates}
use Rattle.excretion.specs.Excretion.{least_of_standard, most_of_standard, most_off_share}
use Rattle.yard.specs.Yard.{er_yard, red_floor_properties, share_excretion}
use Rattle.housing.specs.Housing.{er_housing}
use Rattle.pig_house.specs.Parameters as pigs
use Rattle.pig_house.specs.Parameters.{
  share_liquid,
  share_indoor,
  c_area,
  red_air_scrubber,
  red_housing_floor,
  red_housing_air,
  slurry_rates,
  solid_rates,
  rates_of,
}

-- a unit that the formulas count in: the decimals of a number that counts in it, and how many make 1
pub record Unit : Type 0 where
  pub decimals : ℕ
  pub in_one : ℕ

abbrev pub wholes : Unit
wholes = record { decimals = 0; in_one = 1 }

abbrev pub in_tenths : Unit
in_tenths = record { decimals = 1; in_one = tenths }

abbrev pub in_percent : Unit
in_percent = record { decimals = 2; in_one = percent }

abbrev pub in_thousandths : Unit
in_thousandths = record { decimals = 3; in_one = thousandths }

abbrev pub in_ten_thousandths : Unit
in_ten_thousandths = record { decimals = 4; in_one = ten_thousandths }

abbrev pub in_billionths : Unit
in_billionths = record { decimals = 9; in_one = billionths }

-- kilograms, in grams
abbrev pub in_grams : Unit
in_grams = record { decimals = 3; in_one = 1 kg }

-- where a number stands in its section: behind the name of a technical parameter, or in the formula of an output
pub data Place : Type 0 where
  tech : String → Place
  out : String → Place

pub record Printed : Type 0 where
  pub section : String
  pub place : Place
  pub text : String
  pub unit : Unit
  pub parameter : ℕ

abbrev pub prints : String → Place → String → Unit → ℕ → Printed
prints s p t u n = record { section = s; place = p; text = t; unit = u; parameter = n }

-- ---- a parameter by the name that a file has for its choice: that of the choice at the name's place in 01's list

-- more than any text here reads as, where the list has no such name
abbrev unprinted : ℕ
unprinted = 10 ^ 18

abbrev named : {A : Type 0} → List String → List A → (A → ℕ) → String → ℕ
named names choices parameter name = get_or (map parameter choices) (place_in names name) unprinted

abbrev pub share_of : String → ℕ
share_of = named yards yard_choices share_excretion

abbrev pub floor_of : String → ℕ
floor_of = named floors floor_choices red_floor_properties

abbrev pub housing_of : (HousingType → ℕ) → String → ℕ
housing_of = named housing_types housing_choices

abbrev pub scrubber_of : String → ℕ
scrubber_of = named air_scrubbers scrubber_choices red_air_scrubber

abbrev pub housing_floor_of : String → ℕ
housing_floor_of = named housing_floors housing_floor_choices red_housing_floor

abbrev pub housing_air_of : String → ℕ
housing_air_of = named housing_airs housing_air_choices red_housing_air

-- ---- the sections

-- 2.2
abbrev pub dairy_excretion : List Printed
dairy_excretion =
    prints "2.2" (out "n_excretion_animal") "0.7" in_tenths least_of_standard
    ∷ prints "2.2" (out "n_excretion_animal") "1.3" in_tenths most_of_standard
    ∷ prints "2.2" (out "tan_content") "0.2" in_ten_thousandths most_off_share
    ∷ prints "2.2" (tech "standard_N_excretion") "112" in_grams dairy_standard
    ∷ prints "2.2" (tech "share_Nsol") "0.55" in_ten_thousandths dairy_share
    ∷ []

-- 2.18
abbrev pub dairy_outdoor : List Printed
dairy_outdoor = prints "2.18" (out "days_with_grazing_and_yard") "365" wholes year ∷ []

-- 2.19
abbrev pub dairy_yard : List Printed
dairy_yard =
    prints "2.19" (out "share_excretion") "0" in_tenths (share_of "not_available")
    ∷ prints "2.19" (tech "er_yard") "0.7" in_ten_thousandths er_yard
    ∷ prints "2.19" (tech "share_available_roughage_is_exclusively_supplied_in_the_exercise_yard") "0.6" in_tenths
    (share_of "available_roughage_is_exclusively_supplied_in_the_exercise_yard")
    ∷ prints "2.19" (tech "share_available_roughage_is_partly_supplied_in_the_exercise_yard") "0.2" in_tenths
    (share_of "available_roughage_is_partly_supplied_in_the_exercise_yard")
    ∷ prints "2.19" (tech "share_available_roughage_is_not_supplied_in_the_exercise_yard") "0.1" in_tenths
    (share_of "available_roughage_is_not_supplied_in_the_exercise_yard")
    ∷ prints "2.19" (tech "red_floor_properties_solid_floor") "0.0" in_percent (floor_of "solid_floor")
    ∷ prints "2.19" (tech "red_floor_properties_unpaved_floor") "0.5" in_percent (floor_of "unpaved_floor")
    ∷ prints "2.19" (tech "red_floor_properties_perforated_floor") "0.75" in_percent (floor_of "perforated_floor")
    ∷ prints "2.19" (tech "red_floor_properties_paddock_or_pasture_used_as_exercise_yard") "0.9" in_percent
    (floor_of "paddock_or_pasture_used_as_exercise_yard")
    ∷ []

-- 2.20
abbrev pub dairy_grazing : List Printed
dairy_grazing =
    prints "2.20" (out "n_into_grazing") "24" in_tenths day
    ∷ prints "2.20" (tech "er_dairycow_grazing") "0.083" in_ten_thousandths (cattle_rates DairyCow).nh3
    ∷ prints "2.20" (tech "er_n2_dairycow_grazing") "0.0" in_ten_thousandths (cattle_rates DairyCow).n2
    ∷ prints "2.20" (tech "er_no_dairycow_grazing") "0.0055" in_ten_thousandths (cattle_rates DairyCow).no
    ∷ prints "2.20" (tech "er_n2o_dairycow_grazing") "0.02" in_ten_thousandths (cattle_rates DairyCow).n2o
    ∷ []

-- 2.33
abbrev pub outdoor : List Printed
outdoor = prints "2.33" (out "days_with_grazing_and_yard") "365" wholes year ∷ []

-- 2.34
abbrev pub yard : List Printed
yard =
    prints "2.34" (out "share_excretion") "0" in_tenths (share_of "not_available")
    ∷ prints "2.34" (tech "er_yard") "0.7" in_ten_thousandths er_yard
    ∷ prints "2.34" (tech "share_available_roughage_is_exclusively_supplied_in_the_exercise_yard") "0.6" in_tenths
    (share_of "available_roughage_is_exclusively_supplied_in_the_exercise_yard")
    ∷ prints "2.34" (tech "share_available_roughage_is_partly_supplied_in_the_exercise_yard") "0.2" in_tenths
    (share_of "available_roughage_is_partly_supplied_in_the_exercise_yard")
    ∷ prints "2.34" (tech "share_available_roughage_is_not_supplied_in_the_exercise_yard") "0.1" in_tenths
    (share_of "available_roughage_is_not_supplied_in_the_exercise_yard")
    ∷ prints "2.34" (tech "red_floor_properties_solid_floor") "0.0" in_percent (floor_of "solid_floor")
    ∷ prints "2.34" (tech "red_floor_properties_unpaved_floor") "0.5" in_percent (floor_of "unpaved_floor")
    ∷ prints "2.34" (tech "red_floor_properties_perforated_floor") "0.75" in_percent (floor_of "perforated_floor")
    ∷ prints "2.34" (tech "red_floor_properties_paddock_or_pasture_used_as_exercise_yard") "0.9" in_percent
    (floor_of "paddock_or_pasture_used_as_exercise_yard")
    ∷ []

-- 2.35
abbrev pub cattle_grazing : List Printed
cattle_grazing =
    prints "2.35" (out "n_into_grazing") "24" in_tenths day
    ∷ prints "2.35" (tech "er_cattle_grazing") "0.083" in_ten_thousandths (cattle_rates OtherCattle).nh3
    ∷ prints "2.35" (tech "er_n2_cattle_grazing") "0.0" in_ten_thousandths (cattle_rates OtherCattle).n2
    ∷ prints "2.35" (tech "er_no_cattle_grazing") "0.0055" in_ten_thousandths (cattle_rates OtherCattle).no
    ∷ prints "2.35" (tech "er_n2o_cattle_grazing") "0.02" in_ten_thousandths (cattle_rates OtherCattle).n2o
    ∷ []

-- 2.52
abbrev pub pig_houses : List Printed
pig_houses =
    prints "2.52" (out "share_indoor") "1" in_tenths (housing_of share_indoor "Slurry_Conventional")
    ∷ prints "2.52" (out "share_indoor") "0.5" in_tenths (housing_of share_indoor "Slurry_Label")
    ∷ prints "2.52" (out "share_indoor") "0.5" in_tenths (housing_of share_indoor "Slurry_Label_Open")
    ∷ prints "2.52" (out "share_indoor") "1" in_tenths (housing_of share_indoor "Deep_Litter")
    ∷ prints "2.52" (out "share_indoor") "1" in_tenths (housing_of share_indoor "Outdoor")
    ∷ prints "2.52" (out "c_area") "1" wholes c_area
    ∷ []

-- 2.53 to 2.57, a section a type
abbrev pub pig_house_types : List Printed
pig_house_types =
    prints "2.53" (tech "er") "0.243" in_billionths (housing_of pigs.er_housing "Slurry_Conventional")
    ∷ prints "2.53" (tech "share_liquid") "1" wholes (housing_of share_liquid "Slurry_Conventional")
    ∷ prints "2.54" (tech "er") "0.486" in_billionths (housing_of pigs.er_housing "Slurry_Label")
    ∷ prints "2.54" (tech "share_liquid") "1" wholes (housing_of share_liquid "Slurry_Label")
    ∷ prints "2.55" (tech "er") "0.34" in_billionths (housing_of pigs.er_housing "Slurry_Label_Open")
    ∷ prints "2.55" (tech "share_liquid") "1" wholes (housing_of share_liquid "Slurry_Label_Open")
    ∷ prints "2.56" (tech "er") "0.486" in_billionths (housing_of pigs.er_housing "Deep_Litter")
    ∷ prints "2.56" (tech "share_liquid") "0" wholes (housing_of share_liquid "Deep_Litter")
    ∷ prints "2.57" (tech "er") "0" in_billionths (housing_of pigs.er_housing "Outdoor")
    ∷ prints "2.57" (tech "share_liquid") "0" wholes (housing_of share_liquid "Outdoor")
    ∷ []

-- 2.58 and 2.59
abbrev pub pig_mitigation : List Printed
pig_mitigation =
    prints "2.58" (out "red_air_scrubber") "0" in_tenths (scrubber_of "none")
    ∷ prints "2.58" (tech "red_acid_air_scrubber") "0.9" in_tenths (scrubber_of "acid")
    ∷ prints "2.58" (tech "red_biotrickling_filter_air_scrubber") "0.7" in_tenths
    (scrubber_of "biotrickling")
    ∷ prints "2.59" (out "red_housing_floor") "0" wholes (housing_floor_of "none")
    ∷ prints "2.59" (out "red_housing_air") "0" in_tenths (housing_air_of "none")
    ∷ prints "2.59" (tech "red_low_impuls_air_supply") "0.2" in_tenths (housing_air_of "low_impuls_air_supply")
    ∷ []

-- 2.61
abbrev pub pigs_grazing : List Printed
pigs_grazing =
    prints "2.61" (tech "er_fattening_pig_grazing") "0.2" in_ten_thousandths pigs_rates.nh3
    ∷ prints "2.61" (tech "er_n2_fattening_pig_grazing") "0.0" in_ten_thousandths pigs_rates.n2
    ∷ prints "2.61" (tech "er_no_fattening_pig_grazing") "0.0055" in_ten_thousandths pigs_rates.no
    ∷ prints "2.61" (tech "er_n2o_fattening_pig_grazing") "0.02" in_ten_thousandths pigs_rates.n2o
    ∷ []

-- 2.62
abbrev pub pig_nx_ox : List Printed
pig_nx_ox =
    prints "2.62" (out "er_n2_nsolid") "0" in_ten_thousandths (housing_of (λ t. (rates_of t).er_n2_nsolid) "Outdoor")
    ∷ prints "2.62" (out "er_n2_nliquid") "0" in_ten_thousandths
    (housing_of (λ t. (rates_of t).er_n2_nliquid) "Outdoor")
    ∷ prints "2.62" (out "er_no_nsolid") "0" in_ten_thousandths (housing_of (λ t. (rates_of t).er_no_nsolid) "Outdoor")
    ∷ prints "2.62" (out "er_no_nliquid") "0" in_ten_thousandths
    (housing_of (λ t. (rates_of t).er_no_nliquid) "Outdoor")
    ∷ prints "2.62" (out "er_n2o_nsolid") "0" in_ten_thousandths
    (housing_of (λ t. (rates_of t).er_n2o_nsolid) "Outdoor")
    ∷ prints "2.62" (out "er_n2o_nliquid") "0" in_ten_thousandths
    (housing_of (λ t. (rates_of t).er_n2o_nliquid) "Outdoor")
    ∷ prints "2.62" (tech "er_n2_solid_Slurry") "0.02" in_ten_thousandths slurry_rates.er_n2_nsolid
    ∷ prints "2.62" (tech "er_n2_solid_Solid") "0.05" in_ten_thousandths solid_rates.er_n2_nsolid
    ∷ prints "2.62" (tech "er_n2_liquid_Slurry") "0.02" in_ten_thousandths slurry_rates.er_n2_nliquid
    ∷ prints "2.62" (tech "er_n2_liquid_Solid") "0.05" in_ten_thousandths solid_rates.er_n2_nliquid
    ∷ prints "2.62" (tech "er_no_solid_Slurry") "0.002" in_ten_thousandths slurry_rates.er_no_nsolid
    ∷ prints "2.62" (tech "er_no_solid_Solid") "0.01" in_ten_thousandths solid_rates.er_no_nsolid
    ∷ prints "2.62" (tech "er_no_liquid_Slurry") "0.002" in_ten_thousandths slurry_rates.er_no_nliquid
    ∷ prints "2.62" (tech "er_no_liquid_Solid") "0.01" in_ten_thousandths solid_rates.er_no_nliquid
    ∷ prints "2.62" (tech "er_n2o_solid_Slurry") "0.002" in_ten_thousandths slurry_rates.er_n2o_nsolid
    ∷ prints "2.62" (tech "er_n2o_solid_Solid") "0.01" in_ten_thousandths solid_rates.er_n2o_nsolid
    ∷ prints "2.62" (tech "er_n2o_liquid_Slurry") "0.002" in_ten_thousandths slurry_rates.er_n2o_nliquid
    ∷ prints "2.62" (tech "er_n2o_liquid_Solid") "0.01" in_ten_thousandths solid_rates.er_n2o_nliquid
    ∷ []

-- 2.84: from where on an entry is noted
abbrev pub notes : List Printed
notes =
    prints "2.84" (out "n_excretion_animal") "0.7" in_tenths least_of_standard
    ∷ prints "2.84" (out "n_excretion_animal") "1.3" in_tenths most_of_standard
    ∷ prints "2.84" (out "tan_excretion") "0.2" in_ten_thousandths most_off_share
    ∷ []

-- 2.84: a category stands here at its place in our list (`standards-named`)
abbrev pub standards : List Printed
standards =
    prints "2.84" (tech "standard_N_excretion_fallow_deer") "20" in_grams (standard_of 0)
    ∷ prints "2.84" (tech "standard_N_excretion_red_deer") "40" in_grams (standard_of 1)
    ∷ prints "2.84" (tech "standard_N_excretion_wapiti") "80" in_grams (standard_of 2)
    ∷ prints "2.84" (tech "standard_N_excretion_bison_older_than_3yr") "60" in_grams (standard_of 3)
    ∷ prints "2.84" (tech "standard_N_excretion_bison_younger_than_3yr") "20" in_grams (standard_of 4)
    ∷ prints "2.84" (tech "standard_N_excretion_lama_older_than_2yr") "17" in_grams (standard_of 5)
    ∷ prints "2.84" (tech "standard_N_excretion_lama_younger_than_2yr") "11" in_grams (standard_of 6)
    ∷ prints "2.84" (tech "standard_N_excretion_alpaca_older_than_2yr") "11" in_grams (standard_of 7)
    ∷ prints "2.84" (tech "standard_N_excretion_alpaca_younger_than_2yr") "7" in_grams (standard_of 8)
    ∷ prints "2.84" (tech "standard_N_excretion_rabbit_doe_kits") "2.6" in_grams (standard_of 9)
    ∷ prints "2.84" (tech "standard_N_excretion_rabbit_young") "0.79" in_grams (standard_of 10)
    ∷ []

-- 2.84: one share for all categories
abbrev pub soluble_shares : List Printed
soluble_shares =
    prints "2.84" (tech "share_Nsol_fallow_deer") "0.4" in_ten_thousandths share_Nsol
    ∷ prints "2.84" (tech "share_Nsol_red_deer") "0.4" in_ten_thousandths share_Nsol
    ∷ prints "2.84" (tech "share_Nsol_wapiti") "0.4" in_ten_thousandths share_Nsol
    ∷ prints "2.84" (tech "share_Nsol_bison_older_than_3yr") "0.4" in_ten_thousandths share_Nsol
    ∷ prints "2.84" (tech "share_Nsol_bison_younger_than_3yr") "0.4" in_ten_thousandths share_Nsol
    ∷ prints "2.84" (tech "share_Nsol_lama_older_than_2yr") "0.4" in_ten_thousandths share_Nsol
    ∷ prints "2.84" (tech "share_Nsol_lama_younger_than_2yr") "0.4" in_ten_thousandths share_Nsol
    ∷ prints "2.84" (tech "share_Nsol_alpaca_older_than_2yr") "0.4" in_ten_thousandths share_Nsol
    ∷ prints "2.84" (tech "share_Nsol_alpaca_younger_than_2yr") "0.4" in_ten_thousandths share_Nsol
    ∷ prints "2.84" (tech "share_Nsol_rabbit_doe_kits") "0.4" in_ten_thousandths share_Nsol
    ∷ prints "2.84" (tech "share_Nsol_rabbit_young") "0.4" in_ten_thousandths share_Nsol
    ∷ []

-- 2.85 and 2.87
abbrev pub housing : List Printed
housing =
    prints "2.85" (tech "er_housing") "0.275" in_thousandths er_housing
    ∷ prints "2.87" (tech "k_grazing_b") "0.0403" in_ten_thousandths k_grazing_b
    ∷ []

-- 2.88
abbrev pub roughage_grazing : List Printed
roughage_grazing =
    prints "2.88" (tech "er_roughage_consuming_grazing") "0.125" in_ten_thousandths roughage_rates.nh3
    ∷ prints "2.88" (tech "er_n2_roughage_consuming_grazing") "0.0" in_ten_thousandths roughage_rates.n2
    ∷ prints "2.88" (tech "er_no_roughage_consuming_grazing") "0.0055" in_ten_thousandths roughage_rates.no
    ∷ prints "2.88" (tech "er_n2o_roughage_consuming_grazing") "0.01" in_ten_thousandths roughage_rates.n2o
    ∷ []

abbrev pub table : List Printed
table =
    dairy_excretion
    ++ dairy_outdoor
    ++ dairy_yard
    ++ dairy_grazing
    ++ outdoor
    ++ yard
    ++ cattle_grazing
    ++ pig_houses
    ++ pig_house_types
    ++ pig_mitigation
    ++ pigs_grazing
    ++ pig_nx_ox
    ++ notes
    ++ standards
    ++ soluble_shares
    ++ housing
    ++ roughage_grazing

-- what the theorem says of a row: its decimals make the unit, and the parameter is the number that the text reads as
pub record IsPrinted (p : Printed) : Type 0 where
  pub unit_is : 10 ^ p.unit.decimals ≡ p.unit.in_one
  pub reads : number_of (bytes p.text) p.unit.decimals p.parameter ≡ Some p.parameter

-- 2.84's key of a category, `standard_N_excretion_` and its name, and what a row has in its place
abbrev pub keyed : String → String → List ℕ
keyed key category = bytes key ++ bytes category

abbrev pub name : Place → List ℕ
name (tech n) = bytes n
name (out n) = bytes n

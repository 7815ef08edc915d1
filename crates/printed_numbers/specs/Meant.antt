-- The names that may stand as a value in a file, as 001's formulas write them, each beside the numbers that 001 prints
-- for it. A name is looked up among those of its input, as reading does it; the choice is the one of the place where it
-- is found, and the number is the parameter of the choice. The theorem over the table is `every-name_meant` of
-- proofs/Meant: so no name is misspelt, and none stands for another's choice.
use Rattle.std.specs.Prelude.{ℕ, List, [], ◌∷◌, ◌++◌, ◌≡◌, Some}
use Prim.Native.String.{String}
use Rattle.base.specs.Text.{bytes}
use Rattle.numbers.specs.Reading.{number_of}
use Rattle.names.specs.declared.ValueList.{ValueList}
use Rattle.names.specs.declared.ValueList.TheVariants.{
  Yards,
  Floors,
  HousingTypes,
  AirScrubbers,
  HousingFloors,
  HousingAirs,
}
use Rattle.names.specs.Find.{find_name}
use Rattle.kinds.specs.Choices.{yard_at, floor_at, housing_at, scrubber_at, housing_floor_at, housing_air_at}
use Rattle.yard.specs.Yard.{share_excretion, red_floor_properties}
use Rattle.pig_house.specs.Parameters.{
  er_housing,
  share_liquid,
  share_indoor,
  red_air_scrubber,
  red_housing_floor,
  red_housing_air,
}
use Rattle.printed_numbers.specs.Printed.{Unit, wholes, in_tenths, in_percent, in_billionths}

-- a parameter that goes by a name: among which names, its number for the one at a place, and the unit of that
pub record Parameter : Type 0 where
  pub among : ValueList
  pub number_at : ℕ → ℕ
  pub unit : Unit

abbrev pub goes_by : ValueList → (ℕ → ℕ) → Unit → Parameter
goes_by names number u = record { among = names; number_at = number; unit = u }

abbrev pub share : Parameter
share = goes_by Yards (λ place. share_excretion (yard_at place)) in_tenths

abbrev pub reduction : Parameter
reduction = goes_by Floors (λ place. red_floor_properties (floor_at place)) in_percent

abbrev pub er : Parameter
er = goes_by HousingTypes (λ place. er_housing (housing_at place)) in_billionths

abbrev pub liquid : Parameter
liquid = goes_by HousingTypes (λ place. share_liquid (housing_at place)) wholes

abbrev pub indoor : Parameter
indoor = goes_by HousingTypes (λ place. share_indoor (housing_at place)) in_tenths

abbrev pub scrubber : Parameter
scrubber = goes_by AirScrubbers (λ place. red_air_scrubber (scrubber_at place)) in_tenths

abbrev pub floor : Parameter
floor = goes_by HousingFloors (λ place. red_housing_floor (housing_floor_at place)) wholes

abbrev pub air : Parameter
air = goes_by HousingAirs (λ place. red_housing_air (housing_air_at place)) in_tenths

-- a row: the value as a file has it, and the number as 001 prints it
pub record Meant : Type 0 where
  pub parameter : Parameter
  pub value : String
  pub text : String

infix 68 ◌of◌is◌
abbrev pub ◌of◌is◌ : Parameter → String → String → Meant
p of v is t = record { parameter = p; value = v; text = t }

-- 2.34, and 2.19 in the same words: share_excretion
abbrev pub yards : List Meant
yards =
    share of "not_available" is "0"
    ∷ share of "available_roughage_is_not_supplied_in_the_exercise_yard" is "0.1"
    ∷ share of "available_roughage_is_partly_supplied_in_the_exercise_yard" is "0.2"
    ∷ share of "available_roughage_is_exclusively_supplied_in_the_exercise_yard" is "0.6"
    ∷ []

-- 2.34, and 2.19: c_floor_properties_exercise_yard, which is 1 less these
abbrev pub floors : List Meant
floors =
    reduction of "solid_floor" is "0.0"
    ∷ reduction of "unpaved_floor" is "0.5"
    ∷ reduction of "perforated_floor" is "0.75"
    ∷ reduction of "paddock_or_pasture_used_as_exercise_yard" is "0.9"
    ∷ []

-- 2.53 to 2.57 by their names, and share_indoor of 2.52: no two types have all three in common
abbrev pub houses : List Meant
houses =
    er of "Slurry_Conventional" is "0.243"
    ∷ liquid of "Slurry_Conventional" is "1"
    ∷ indoor of "Slurry_Conventional" is "1"
    ∷ er of "Slurry_Label" is "0.486"
    ∷ liquid of "Slurry_Label" is "1"
    ∷ indoor of "Slurry_Label" is "0.5"
    ∷ er of "Slurry_Label_Open" is "0.34"
    ∷ liquid of "Slurry_Label_Open" is "1"
    ∷ indoor of "Slurry_Label_Open" is "0.5"
    ∷ er of "Deep_Litter" is "0.486"
    ∷ liquid of "Deep_Litter" is "0"
    ∷ indoor of "Deep_Litter" is "1"
    ∷ er of "Outdoor" is "0"
    ∷ liquid of "Outdoor" is "0"
    ∷ indoor of "Outdoor" is "1"
    ∷ []

-- 2.58 and 2.59: the formulas' names, not the texts'
abbrev pub mitigation : List Meant
mitigation =
    scrubber of "acid" is "0.9"
    ∷ scrubber of "biotrickling" is "0.7"
    ∷ scrubber of "none" is "0"
    ∷ floor of "none" is "0"
    ∷ air of "low_impuls_air_supply" is "0.2"
    ∷ air of "none" is "0"
    ∷ []

abbrev pub values : List Meant
values = yards ++ floors ++ houses ++ mitigation

-- what the theorem says of a row: the name is found, and the parameter of the choice there is the number that the text
-- reads as
pub record IsMeant (m : Meant) : Type 0 where
  pub place : ℕ
  pub found : find_name m.parameter.among (bytes m.value) ≡ Some place
  pub reads :
      number_of (bytes m.text) m.parameter.unit.decimals (m.parameter.number_at place)
      ≡ Some (m.parameter.number_at place)

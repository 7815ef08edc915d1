-- The names that a value may be (01, The farm file), list by list, in the order of their page in 001. To be believed.
use Rattle.std.specs.Prelude.{ℕ, List, [], ◌∷◌, length}
use Prim.Native.String.{String}
use Rattle.names.specs.declared.ValueList.{ValueList}
use Rattle.names.specs.declared.ValueList.TheVariants.{
  Categories,
  Yards,
  Floors,
  HousingTypes,
  AirScrubbers,
  HousingFloors,
  HousingAirs,
}

-- 2.84, the eleven categories
abbrev pub categories : List String
categories =
    "fallow_deer"
    ∷ "red_deer"
    ∷ "wapiti"
    ∷ "bison_older_than_3yr"
    ∷ "bison_younger_than_3yr"
    ∷ "lama_older_than_2yr"
    ∷ "lama_younger_than_2yr"
    ∷ "alpaca_older_than_2yr"
    ∷ "alpaca_younger_than_2yr"
    ∷ "rabbit_doe_kits"
    ∷ "rabbit_young"
    ∷ []

-- 2.34, share_excretion
abbrev pub yards : List String
yards =
    "not_available"
    ∷ "available_roughage_is_not_supplied_in_the_exercise_yard"
    ∷ "available_roughage_is_partly_supplied_in_the_exercise_yard"
    ∷ "available_roughage_is_exclusively_supplied_in_the_exercise_yard"
    ∷ []

-- 2.34, c_floor_properties_exercise_yard
abbrev pub floors : List String
floors = "solid_floor" ∷ "unpaved_floor" ∷ "perforated_floor" ∷ "paddock_or_pasture_used_as_exercise_yard" ∷ []

-- 2.62, the five types
abbrev pub housing_types : List String
housing_types = "Slurry_Conventional" ∷ "Slurry_Label" ∷ "Slurry_Label_Open" ∷ "Deep_Litter" ∷ "Outdoor" ∷ []

-- 2.58, red_air_scrubber: the formula's names, not the text's
abbrev pub air_scrubbers : List String
air_scrubbers = "acid" ∷ "biotrickling" ∷ "none" ∷ []

-- 2.59, red_housing_floor
abbrev pub housing_floors : List String
housing_floors = "none" ∷ []

-- 2.59, red_housing_air
abbrev pub housing_airs : List String
housing_airs = "low_impuls_air_supply" ∷ "none" ∷ []

abbrev pub names_of : ValueList → List String
names_of Categories = categories
names_of Yards = yards
names_of Floors = floors
names_of HousingTypes = housing_types
names_of AirScrubbers = air_scrubbers
names_of HousingFloors = housing_floors
names_of HousingAirs = housing_airs

abbrev pub size_of : ValueList → ℕ
size_of names = length (names_of names)

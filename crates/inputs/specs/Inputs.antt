-- 01, The farm file: "Inputs per kind", in its order, and 02, W9. The one list that says which inputs there are, where
-- they stand in a file, and what their values may be. To be believed. Numbers count in units of their last decimal:
-- grams for kilograms with three, hundredths of a percent for percent with two, tenths of an hour for hours with one.
use Rattle.std.specs.Prelude.{ℕ, ◌*◌, Bool, List, [], ◌∷◌, eqb, length, get_or}
use Prim.Native.String.{String}
use Rattle.names.specs.declared.ValueList.TheVariants.{
  Categories,
  Yards,
  Floors,
  HousingTypes,
  AirScrubbers,
  HousingFloors,
  HousingAirs,
}
use Rattle.inputs.specs.declared.Kind.{Kind}
use Rattle.inputs.specs.declared.Kind.TheVariants.{Roughage, Cattle, Pigs, DairyCow}
use Rattle.inputs.specs.declared.Form.{Form}
use Rattle.inputs.specs.declared.Form.TheVariants.{Number, OrStandard, NoStandard, Signed, OneOf}

-- ---- 01, "Ranges"

abbrev pub head_count : Form
head_count = Number 0 10000

abbrev pub kilograms : (ℕ → ℕ → Form) → Form
kilograms form = form 3 (200 * 1000)

abbrev pub percentage : (ℕ → ℕ → Form) → Form
percentage form = form 2 (100 * 100)

-- 02, W3: "The range becomes −100 to 100, whole"
abbrev pub reduction : Form
reduction = Signed 100

abbrev pub days : Form
days = Number 0 365

abbrev pub hours : Form
hours = Number 1 (24 * 10)

abbrev pub category : Form
category = OneOf Categories

abbrev pub yard : Form
yard = OneOf Yards

abbrev pub floor : Form
floor = OneOf Floors

abbrev pub housing_type : Form
housing_type = OneOf HousingTypes

abbrev pub air_scrubber : Form
air_scrubber = OneOf AirScrubbers

abbrev pub housing_floor : Form
housing_floor = OneOf HousingFloors

abbrev pub housing_air : Form
housing_air = OneOf HousingAirs

-- ---- the list

pub record Row : Type 0 where
  pub path : String
  pub name : String
  pub form : Form

infixr 6 ◌has◌reads◌
abbrev pub ◌has◌reads◌ : String → String → Form → Row
m has n reads f = record { path = m; name = n; form = f }

abbrev pub rows_of : Kind → List Row
rows_of Roughage =
    ("Livestock::RoughageConsuming::Excretion" has "animalcategory" reads category)
    ∷ ("Livestock::RoughageConsuming::Excretion" has "animals" reads head_count)
    ∷ ("Livestock::RoughageConsuming::Excretion" has "inp_n_excretion" reads kilograms OrStandard)
    ∷ ("Livestock::RoughageConsuming::Excretion" has "tan_fraction" reads percentage OrStandard)
    ∷ ("Livestock::RoughageConsuming::Housing::CFreeFactor" has "free_correction_factor" reads reduction)
    ∷ ("Livestock::RoughageConsuming::Grazing" has "grazing_days" reads days)
    ∷ ("Livestock::RoughageConsuming::Grazing" has "grazing_hours" reads hours)
    ∷ []
rows_of Cattle =
    ("Livestock::OtherCattle::Excretion" has "animals" reads head_count)
    ∷ ("Livestock::OtherCattle::Excretion" has "inp_n_excretion" reads kilograms NoStandard)
    ∷ ("Livestock::OtherCattle::Excretion" has "tan_fraction" reads percentage NoStandard)
    ∷ ("Livestock::OtherCattle::Outdoor" has "yard_days" reads days)
    ∷ ("Livestock::OtherCattle::Outdoor" has "exercise_yard" reads yard)
    ∷ ("Livestock::OtherCattle::Outdoor" has "floor_properties_exercise_yard" reads floor)
    ∷ ("Livestock::OtherCattle::Outdoor" has "free_correction_factor" reads reduction)
    ∷ ("Livestock::OtherCattle::Outdoor" has "grazing_days" reads days)
    ∷ ("Livestock::OtherCattle::Outdoor" has "grazing_hours" reads hours)
    ∷ []
rows_of Pigs =
    ("Livestock::FatteningPigs::Excretion" has "animals" reads head_count)
    ∷ ("Livestock::FatteningPigs::Excretion" has "inp_n_excretion" reads kilograms NoStandard)
    ∷ ("Livestock::FatteningPigs::Excretion" has "tan_fraction" reads percentage NoStandard)
    ∷ ("Livestock::FatteningPigs::Housing::Type" has "housing_type" reads housing_type)
    ∷ ("Livestock::FatteningPigs::Housing::AirScrubber" has "air_scrubber" reads air_scrubber)
    ∷ ("Livestock::FatteningPigs::Housing::MitigationOptions" has "mitigation_housing_floor" reads housing_floor)
    ∷ ("Livestock::FatteningPigs::Housing::MitigationOptions" has "mitigation_housing_air" reads housing_air)
    ∷ ("Livestock::FatteningPigs::Housing::CFreeFactor" has "free_correction_factor" reads reduction)
    ∷ []
rows_of DairyCow =
    ("Livestock::DairyCow::Excretion" has "animals" reads head_count)
    ∷ ("Livestock::DairyCow::Excretion" has "inp_n_excretion" reads kilograms NoStandard)
    ∷ ("Livestock::DairyCow::Excretion" has "tan_fraction" reads percentage OrStandard)
    ∷ ("Livestock::DairyCow::Outdoor" has "yard_days" reads days)
    ∷ ("Livestock::DairyCow::Outdoor" has "exercise_yard" reads yard)
    ∷ ("Livestock::DairyCow::Outdoor" has "floor_properties_exercise_yard" reads floor)
    ∷ ("Livestock::DairyCow::Outdoor" has "free_correction_factor" reads reduction)
    ∷ ("Livestock::DairyCow::Outdoor" has "grazing_days" reads days)
    ∷ ("Livestock::DairyCow::Outdoor" has "grazing_hours" reads hours)
    ∷ []

-- the kinds in the list's order
abbrev pub kinds : List Kind
kinds = Roughage ∷ Cattle ∷ Pigs ∷ DairyCow ∷ []

-- two kinds are one
abbrev pub number_of : Kind → ℕ
number_of Roughage = 0
number_of Cattle = 1
number_of Pigs = 2
number_of DairyCow = 3

abbrev pub same_kind : Kind → Kind → Bool
same_kind a b = eqb (number_of a) (number_of b)

-- how many inputs a kind has
abbrev pub count_of : Kind → ℕ
count_of k = length (rows_of k)

-- stands for a row where there is none
abbrev pub no_row : Row
no_row = "" has "" reads Number 0 0

abbrev pub last_of : List Row → Row
last_of [] = no_row
last_of (row ∷ []) = row
last_of (row ∷ next ∷ rows) = last_of (next ∷ rows)

-- the input in a slot, past the last slot the last, and how its value reads
abbrev pub row_at : Kind → ℕ → Row
row_at k slot = get_or (rows_of k) slot (last_of (rows_of k))

unfoldable pub form_of : Kind → ℕ → Form
form_of k slot = (row_at k slot).form

-- The choices, each at the place of its name in 01's list (crate `names`). Crate `printed_numbers` holds what 001
-- prints of each name.
use Rattle.std.specs.Prelude.{ℕ, List, [], ◌∷◌, get_or}
use Rattle.kinds.specs.declared.ExerciseYard.{ExerciseYard}
use Rattle.kinds.specs.declared.ExerciseYard.TheVariants.{NotAvailable, NotSupplied, Partly, Exclusively}
use Rattle.kinds.specs.declared.Floor.{Floor}
use Rattle.kinds.specs.declared.Floor.TheVariants.{Solid, Unpaved, Perforated, Paddock}
use Rattle.kinds.specs.declared.HousingType.{HousingType}
use Rattle.kinds.specs.declared.HousingType.TheVariants.{
  SlurryConventional,
  SlurryLabel,
  SlurryLabelOpen,
  DeepLitter,
  Outdoor,
}
use Rattle.kinds.specs.declared.AirScrubber.{AirScrubber}
use Rattle.kinds.specs.declared.AirScrubber.TheVariants as scrubbed
use Rattle.kinds.specs.declared.HousingFloor.{HousingFloor}
use Rattle.kinds.specs.declared.HousingFloor.TheVariants as floored
use Rattle.kinds.specs.declared.HousingAir.{HousingAir}
use Rattle.kinds.specs.declared.HousingAir.TheVariants as aired

-- 2.34, share_excretion
abbrev pub yard_choices : List ExerciseYard
yard_choices = NotAvailable ∷ NotSupplied ∷ Partly ∷ Exclusively ∷ []

-- 2.34, c_floor_properties_exercise_yard
abbrev pub floor_choices : List Floor
floor_choices = Solid ∷ Unpaved ∷ Perforated ∷ Paddock ∷ []

-- 2.62
abbrev pub housing_choices : List HousingType
housing_choices = SlurryConventional ∷ SlurryLabel ∷ SlurryLabelOpen ∷ DeepLitter ∷ Outdoor ∷ []

-- 2.58, red_air_scrubber
abbrev pub scrubber_choices : List AirScrubber
scrubber_choices = scrubbed.Acid ∷ scrubbed.Biotrickling ∷ scrubbed.None ∷ []

-- 2.59, red_housing_floor
abbrev pub housing_floor_choices : List HousingFloor
housing_floor_choices = floored.None ∷ []

-- 2.59, red_housing_air
abbrev pub housing_air_choices : List HousingAir
housing_air_choices = aired.LowImpulsAirSupply ∷ aired.None ∷ []

-- the choice at a place; past the last the last
unfoldable pub yard_at : ℕ → ExerciseYard
yard_at place = get_or yard_choices place Exclusively

unfoldable pub floor_at : ℕ → Floor
floor_at place = get_or floor_choices place Paddock

unfoldable pub housing_at : ℕ → HousingType
housing_at place = get_or housing_choices place Outdoor

unfoldable pub scrubber_at : ℕ → AirScrubber
scrubber_at place = get_or scrubber_choices place scrubbed.None

unfoldable pub housing_floor_at : ℕ → HousingFloor
housing_floor_at place = get_or housing_floor_choices place floored.None

unfoldable pub housing_air_at : ℕ → HousingAir
housing_air_at place = get_or housing_air_choices place aired.None

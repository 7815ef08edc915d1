-- Each name of 01's lists has its choice, and each category its standard; none is left over on either side. Crate
-- `printed_numbers` holds what 001 prints of the choice at a name's place. Assumes nothing.
use mathlib.Core.Path.{◌≡◌, refl}
use lib.ListN.{length}
use Rattle.tables.specs.Standards.{standards}
use Rattle.names.specs.Names.{categories, yards, floors, housing_types, air_scrubbers, housing_floors, housing_airs}
use Rattle.kinds.specs.Choices.{yard_choices, floor_choices, housing_choices, scrubber_choices, housing_floor_choices}
use Rattle.kinds.specs.Choices.{housing_air_choices}

pub all_named :
    (length yards ≡ length yard_choices) × (length floors ≡ length floor_choices)
    × (length housing_types ≡ length housing_choices) × (length air_scrubbers ≡ length scrubber_choices)
    × (length housing_floors ≡ length housing_floor_choices) × (length housing_airs ≡ length housing_air_choices)
    × (length categories ≡ length standards)
all_named = (refl, refl, refl, refl, refl, refl, refl)

-- What a year's days come to as it is printed, computed from the definition. Assumes nothing.
use mathlib.Core.Path.{◌≡◌, refl}
use mathlib.Core.List.{[], ◌∷◌}
use Rattle.base.specs.Text.{bytes}
use Rattle.base.specs.Runs.{joined}
use Rattle.decimal.specs.Writing.{width, whole_of}
use Rattle.lines_outdoors.specs.Lines.{outdoors_lines}

-- 180 days on pasture, 365 on the yard, and 7.5 hours a grazing day
pub year-printed : outdoors_lines (record { grazing_days = 180; yard_days = 365; grazing_hours = 75 })
    ≡ joined (bytes "grazing_days,180\r\n" ∷ bytes "yard_days,365\r\n" ∷ bytes "grazing_hours,7.5\r\n" ∷ [])
unfolding outdoors_lines whole_of width
year-printed = refl

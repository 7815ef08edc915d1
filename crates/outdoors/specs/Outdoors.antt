-- 02, W10: what a year's days come to. Hours count in tenths. To be believed.
use Rattle.std.specs.Prelude.{ℕ, ◌+◌, ◌/◌, Bool, not, List, [], ◌∷◌, ltb, length}
use Rattle.base.specs.Pick.{pick, if◌is◌then◌else◌}
use Rattle.calendar.specs.Calendar.{is_leap_day}
use Rattle.outdoors.specs.declared.Day.{Day}
use Rattle.outdoors.specs.declared.Outdoors.{Outdoors}

-- the days of which this is so
abbrev pub those : (Day → Bool) → List Day → List Day
those f [] = []
those f (d ∷ ds) = pick (f d) (d ∷ those f ds) (those f ds)

-- "In a leap year 29 February is read and checked but not counted, since the model has 365 days."
abbrev pub days_that_count : List Day → List Day
days_that_count days = those (λ d. not (is_leap_day d.date)) days

-- "grazing_days (days with pasture hours above 0), yard_days likewise"
abbrev pub grazed : List Day → List Day
grazed days = those (λ d. ltb 0 d.pasture) (days_that_count days)

abbrev pub on_yard : List Day → List Day
on_yard days = those (λ d. ltb 0 d.yard) (days_that_count days)

abbrev pub pasture_hours : List Day → ℕ
pasture_hours [] = 0
pasture_hours (d ∷ ds) = d.pasture + pasture_hours ds

-- "grazing_hours as the sum over grazing days divided by their number, cut to a tenth, 0 where there are none"
abbrev pub mean_of : ℕ → ℕ → ℕ
mean_of tenths days = if days is 0 then 0 else tenths / days

unfoldable pub outdoors_of : List Day → Outdoors
outdoors_of days =
    record {
      grazing_days = length (grazed days);
      yard_days = length (on_yard days);
      grazing_hours = mean_of (pasture_hours (grazed days)) (length (grazed days));
    }

-- Dates on both sides of a month's and a year's end, computed from the definitions. Assumes nothing.
use mathlib.Core.Path.{◌≡◌, refl}
use mathlib.Core.List.{[], ◌∷◌, map}
use Rattle.calendar.specs.Calendar.{date, is_leap, days_in, next_date}

-- the day after 28 February, in a hundredth year, a four-hundredth, a common year and a leap year; the year 0 counts
-- as the rule says
pub february-rows :
    map next_date (date 1900 2 28 ∷ date 2000 2 28 ∷ date 2023 2 28 ∷ date 2024 2 28 ∷ date 0 2 28 ∷ [])
    ≡ date 1900 3 1 ∷ date 2000 2 29 ∷ date 2023 3 1 ∷ date 2024 2 29 ∷ date 0 2 29 ∷ []
unfolding next_date days_in is_leap
february-rows = refl

-- the day after other month's ends, and after the year's
pub end-rows :
    map next_date
    (date 2024 1 31 ∷ date 2024 2 29 ∷ date 2024 4 30 ∷ date 2024 7 31 ∷ date 2024 11 30 ∷ date 1999 12 31 ∷ [])
    ≡ date 2024 2 1 ∷ date 2024 3 1 ∷ date 2024 5 1 ∷ date 2024 8 1 ∷ date 2024 12 1 ∷ date 2000 1 1 ∷ []
unfolding next_date days_in is_leap
end-rows = refl

-- The Gregorian calendar, as one knows it by heart (02, W10: "Dates run from 1 January without gaps to 31 December,
-- Gregorian leap years included"). To be believed; proofs/Years.antt has what follows of it.
use Rattle.std.specs.Prelude.{ℕ, zero, suc, ◌+◌, ◌%◌, ◌<◌, ◌≤◌, ◌≡◌, Bool, true, false, List, [], ◌∷◌, eqb, ltb, get_or}
use Rattle.base.specs.Pick.{pick, if◌is◌then◌else◌}
use Rattle.calendar.specs.declared.Date.{Date}

abbrev pub date : ℕ → ℕ → ℕ → Date
date y m d = record { year = y; month = m; day = d }

-- ---- years and months

-- y is a multiple of k
infix 60 ◌divides◌
abbrev pub ◌divides◌ : ℕ → ℕ → Bool
k divides y = eqb (y % k) 0

-- every fourth year is a leap year, but of the hundredth years only every fourth
unfoldable pub is_leap : ℕ → Bool
is_leap y = pick (400 divides y) true (pick (100 divides y) false (4 divides y))

-- the days of the months, January to December
abbrev pub months_of : Bool → List ℕ
months_of leap = 31 ∷ pick leap 29 28 ∷ 31 ∷ 30 ∷ 31 ∷ 30 ∷ 31 ∷ 31 ∷ 30 ∷ 31 ∷ 30 ∷ 31 ∷ []

-- the days of a month, counted from 1; there is no month 0, and none past the twelfth
unfoldable pub days_in : ℕ → ℕ → ℕ
days_in y m = get_or (0 ∷ months_of (is_leap y)) m 0

abbrev pub year_length : ℕ → ℕ
year_length y = pick (is_leap y) 366 365

abbrev pub sum : List ℕ → ℕ
sum [] = 0
sum (n ∷ ns) = n + sum ns

-- ---- dates

-- there is such a day
pub record Exists (d : Date) : Type 0 where
  pub first : 1 ≤ d.day
  pub last : d.day ≤ days_in d.year d.month

abbrev pub new_year : ℕ → Date
new_year y = date y 1 1

abbrev pub new_years_eve : ℕ → Date
new_years_eve y = date y 12 31

-- the day after: of this month, the first of the next, or 1 January
unfoldable pub next_date : Date → Date
next_date d =
    pick (ltb d.day (days_in d.year d.month)) (date d.year d.month (d.day + 1))
    (pick (ltb d.month 12) (date d.year (d.month + 1) 1)
    (new_year (d.year + 1)))

-- so many days later
abbrev pub after : ℕ → Date → Date
after zero d = d
after (suc n) d = after n (next_date d)

-- so many dates without a gap, from this one on
abbrev pub dates_from : ℕ → Date → List Date
dates_from zero d = []
dates_from (suc n) d = d ∷ dates_from n (next_date d)

-- a date comes so many days after 1 January of its year, and within the year
pub record Comes (d : Date) : Type 0 where
  pub days : ℕ
  pub within : days < year_length d.year
  pub reached : after days (new_year d.year) ≡ d

-- the dates of a year
abbrev pub year_dates : ℕ → List Date
year_dates y = dates_from (year_length y) (new_year y)

-- ---- days of any year

-- this day of this month
abbrev pub same_day : ℕ → ℕ → Date → Bool
same_day m k d = if d.month is m then eqb d.day k else false

abbrev pub same_date : Date → Date → Bool
same_date a b = if b.year is a.year then same_day a.month a.day b else false

-- 29 February
abbrev pub is_leap_day : Date → Bool
is_leap_day d = same_day 2 29 d

-- 31 December
pub record IsEve (d : Date) : Type 0 where
  pub december : d.month ≡ 12
  pub last : d.day ≡ 31

-- How a date is read, by its ten bytes. It mirrors the code for its contracts; what a date's text is, is said in
-- `Texts`.
use Rattle.std.specs.Prelude.{ℕ, ◌+◌, ◌-◌, ◌*◌, List, ltb, length, get_or}
use Rattle.base.specs.Pick.{pick, if◌is◌then◌else◌}
use Rattle.std.specs.Prelude.{Option, Some, None}
use Rattle.calendar.specs.declared.Date.{Date}
use Rattle.calendar.specs.Calendar.{date}

-- `-`
abbrev pub hyphen : ℕ
hyphen = 45

-- x where b is one of `0` to `9`
abbrev pub if_digit : ℕ → Option ℕ → Option ℕ
if_digit b x = pick (ltb b 48) None (pick (ltb 57 b) None x)

unfoldable pub pair_of : ℕ → ℕ → Option ℕ
pair_of a b = if_digit a (if_digit b (Some ((a - 48) * 10 + (b - 48))))

-- the year's hundreds and the years past them, the month and the day
abbrev pub date_by : Option ℕ → Option ℕ → Option ℕ → Option ℕ → Option Date
date_by (Some h) (Some y) (Some m) (Some d) = Some (date (h * 100 + y) m d)
date_by (Some h) (Some y) (Some m) None = None
date_by (Some h) (Some y) None d = None
date_by (Some h) None m d = None
date_by None y m d = None

-- of the ten bytes of a text
abbrev pub date_in : List ℕ → Option Date
date_in s =
    date_by (pair_of (get_or s 0 0) (get_or s 1 0)) (pair_of (get_or s 2 0) (get_or s 3 0))
    (pair_of (get_or s 5 0) (get_or s 6 0))
    (pair_of (get_or s 8 0) (get_or s 9 0))

unfoldable pub date_of : List ℕ → Option Date
date_of s =
    if length s is 10 then
    (if get_or s 4 0 is hyphen then
    (if get_or s 7 0 is hyphen then date_in s else None)
    else None)
    else None

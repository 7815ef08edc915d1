-- What a record says of its day by itself: 3 and 7, and 14 where the date can't be read. It mirrors the code for its
-- contracts; what these mean is said of the records in `gate_rules_theorems/specs`, and proved to be the same there.
use Rattle.std.specs.Prelude.{ℕ, ◌+◌, ltb, Option, Some, None, Result, Ok, Err}
use Rattle.base.specs.Pick.{pick, if◌is◌then◌else◌}
use Rattle.grammar.specs.Reading.{Parts}
use Rattle.numbers.specs.Reading.{number_of}
use Rattle.calendar.specs.declared.Date.{Date}
use Rattle.dates.specs.Reading.{date_of}
use Rattle.outdoors.specs.declared.Day.{Day}
use Rattle.gate_days.specs.declared.LogRefusal.{LogRefusal}
use Rattle.gate_days.specs.declared.LogRefusal.TheVariants.{NotThreeFields, BadHours, WrongDate}
use Rattle.digits.specs.Digits.{Number}

-- 24 hours, in tenths
abbrev pub hours_most : ℕ
hours_most = 240

abbrev pub day : Date → ℕ → ℕ → Day
day d p q = record { date = d; pasture = p; yard = q }

abbrev pub hours_by : Number → Number → Option (ℕ × ℕ)
hours_by (Some p) (Some q) = pick (ltb hours_most (p + q)) None (Some (p, q))
hours_by (Some p) None = None
hours_by None q = None

unfoldable pub hours_of : Parts → Option (ℕ × ℕ)
hours_of x = hours_by (number_of x.second 1 hours_most) (number_of x.third 1 hours_most)

abbrev pub day_by : Option (ℕ × ℕ) → Option Date → Result Day LogRefusal
day_by (Some (p, q)) (Some d) = Ok (day d p q)
day_by (Some (p, q)) None = Err WrongDate
day_by None d = Err BadHours

unfoldable pub day_of : Parts → Result Day LogRefusal
day_of x = if x.count is 3 then day_by (hours_of x) (date_of x.first) else Err NotThreeFields

-- Which date may come next in one year's dates. It mirrors the code for its contracts; proofs/Years.antt shows that
-- it follows the calendar.
use Rattle.std.specs.Prelude.{◌+◌, Bool, false, ltb}
use Rattle.base.specs.Pick.{pick}
use Rattle.calendar.specs.declared.Date.{Date}
use Rattle.calendar.specs.declared.Due.{Due}
use Rattle.calendar.specs.declared.Due.TheVariants.{NewYear, On, Nothing}
use Rattle.calendar.specs.Calendar.{date, days_in, same_day, same_date}

abbrev pub is_due : Due → Date → Bool
is_due NewYear d = same_day 1 1 d
is_due (On e) d = same_date e d
is_due Nothing d = false

unfoldable pub due_after : Date → Due
due_after d =
    pick (ltb d.day (days_in d.year d.month)) (On (date d.year d.month (d.day + 1)))
    (pick (ltb d.month 12) (On (date d.year (d.month + 1) 1)) Nothing)

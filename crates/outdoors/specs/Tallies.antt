-- Days counted one after the other. It mirrors the code for its contracts; proofs/Tallied.antt shows that it comes to
-- `outdoors_of`.
use Rattle.std.specs.Prelude.{ℕ, ◌+◌, ◌^◌, ◌<◌, ltb}
use Rattle.base.specs.Pick.{pick}
use Rattle.calendar.specs.Calendar.{is_leap_day}
use Rattle.outdoors.specs.declared.Day.{Day}
use Rattle.outdoors.specs.declared.Tally.{Tally}
use Rattle.outdoors.specs.declared.Outdoors.{Outdoors}
use Rattle.outdoors.specs.Outdoors.{mean_of}

-- 1 for a day with hours
abbrev pub one_if : ℕ → ℕ
one_if hours = pick (ltb 0 hours) 1 0

abbrev pub tally : ℕ → ℕ → ℕ → Tally
tally g y h = record { grazing_days = g; yard_days = y; pasture = h }

unfoldable pub with_day : Tally → Day → Tally
with_day t d =
    pick (is_leap_day d.date) t
    (tally (t.grazing_days + one_if d.pasture) (t.yard_days + one_if d.yard) (t.pasture + d.pasture))

abbrev pub outdoors_by : Tally → Outdoors
outdoors_by t =
    record {
      grazing_days = t.grazing_days;
      yard_days = t.yard_days;
      grazing_hours = mean_of t.pasture t.grazing_days;
    }

-- a day more does not pass what the numbers hold
pub record Roomy (t : Tally) : Type 0 where
  pub grazing : t.grazing_days < 2 ^ 31
  pub yard : t.yard_days < 2 ^ 31
  pub hours : t.pasture < 2 ^ 31

-- A log read through, record by record. It mirrors the code for its contracts; what it means is said of the records
-- in `gate_rules_theorems/specs`, and proved to be the same there.
use Rattle.std.specs.Prelude.{ℕ, ◌+◌, List, ltb, length, Result, Ok, Err}
use Rattle.base.specs.Pick.{pick}
use Rattle.base.specs.Refused.{refuse}
use Rattle.grammar.specs.Reading.{Reading, ◌then◌, end, broken, reading_of, parts_of}
use Rattle.calendar.specs.declared.Due.{Due}
use Rattle.calendar.specs.declared.Due.TheVariants.{NewYear, On, Nothing}
use Rattle.calendar.specs.Following.{is_due, due_after}
use Rattle.outdoors.specs.declared.Day.{Day}
use Rattle.outdoors.specs.declared.Tally.{Tally}
use Rattle.gate.specs.declared.Progress.{Progress}
use Rattle.gate_days.specs.declared.LogRefusal.{LogRefusal}
use Rattle.gate_days.specs.declared.LogRefusal.TheVariants.{LogTooLong, RecordBroken, WrongDate}
use Rattle.gate_days.specs.Days.{day_of}
use Rattle.outdoors.specs.Tallies.{tally, with_day, outdoors_by}
use Rattle.base.specs.declared.refusals.Refused.{Refused}
use Rattle.outdoors.specs.declared.Outdoors.{Outdoors}

-- what a log is answered with
abbrev pub LogAnswer : Type 0
LogAnswer = Result Outdoors (Refused LogRefusal)

abbrev pub progress : Due → Tally → Progress
progress due t = record { due = due; tally = t }

abbrev pub nothing_read : Progress
nothing_read = progress NewYear (tally 0 0 0)

-- what a record does: its date has to be the one that is due
abbrev pub taken_by : Progress → Result Day LogRefusal → Result Progress LogRefusal
taken_by p (Err refusal) = Err refusal
taken_by p (Ok d) =
    pick (is_due p.due d.date) (Ok (progress (due_after d.date) (with_day p.tally d))) (Err WrongDate)

abbrev pub finished_by : Due → Tally → LogAnswer
finished_by NewYear t = refuse WrongDate 0
finished_by (On d) t = refuse WrongDate 0
finished_by Nothing t = Ok (outdoors_by t)

unfoldable pub finished : Progress → LogAnswer
finished p = finished_by p.due p.tally

-- from record n on, with these records to come; a broken record is 2
unfoldable pub read_from : ℕ → Progress → Reading → LogAnswer
read_from n p end = finished p
read_from n p broken = refuse RecordBroken n
read_from n p (cs then rest) =
    elim (taken_by p (day_of (parts_of cs))) [
      | Ok q ↦ read_from (n + 1) q rest
      | Err refusal ↦ refuse refusal n
    ]

-- at most 65,536 bytes, as 01 has it for a farm file
abbrev pub log_most : ℕ
log_most = 65536

unfoldable pub read_log : List ℕ → LogAnswer
read_log s = pick (ltb log_most (length s)) (refuse LogTooLong 0) (read_from 1 nothing_read (reading_of s))

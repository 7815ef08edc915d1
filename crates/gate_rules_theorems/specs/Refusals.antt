-- 02, W10, Refusals: when each applies, said of a log's records and not of how they are read, and which is the first.
-- proofs/Refuses.antt shows that the reader gives exactly that one. To be believed.
use Rattle.std.specs.Prelude.{ℕ, ◌+◌, ◌<◌, ◌≤◌, ◌≡◌, List, [], length}
use Rattle.grammar.specs.Grammar.{FileOf, Breaks}
use Rattle.rules_theorems.specs.Lists.{Last}
use Rattle.first_refusal.specs.First.{FirstOf}
use Rattle.first_refusal.specs.Records.{Record, RecordAt}
use Rattle.calendar.specs.declared.Date.{Date}
use Rattle.calendar.specs.Calendar.{new_year, next_date, IsEve}
use Rattle.dates.specs.Texts.{IsDate}
use Rattle.gate_days.specs.declared.LogRefusal.{LogRefusal}
use Rattle.gate_days.specs.declared.LogRefusal.TheVariants.{LogTooLong, RecordBroken, NotThreeFields, BadHours}
use Rattle.gate_days.specs.declared.LogRefusal.TheVariants.{WrongDate}
use Rattle.outdoors.specs.declared.Outdoors.{Outdoors}
use Rattle.gate_days.specs.Refusals.{number}
use Rattle.gate.specs.Answers.{Says, gives, refuses}
use Rattle.gate_rules_theorems.specs.Rules.{date_text, HoursAre, log_most, KeepsLog}

-- ---- 3, 7 and 14, of the record cs that stands behind these

-- the date that has to come behind these records: 1 January of any year at the front, else the day after that of the
-- record before, to 31 December
pub data DueAfter (before : List Record) : Date → Type 0 where
  at_new_year : {y : ℕ} → before ≡ [] → DueAfter before (new_year y)
  next : {r : Record} {d : Date} → Last before r → IsDate (date_text r) d → (IsEve d → ⊥)
      → DueAfter before (next_date d)

pub data Applies (before : List Record) (cs : Record) : LogRefusal → Type 0 where
  not_three_fields : (length cs ≡ 3 → ⊥) → Applies before cs NotThreeFields
  bad_hours : ((p q : ℕ) → HoursAre cs p q → ⊥) → Applies before cs BadHours
  wrong_date : ((d : Date) → IsDate (date_text cs) d → DueAfter before d → ⊥) → Applies before cs WrongDate

-- ---- a log's refusals

-- the refusal applies to the log, with this record number; 14 with 0 for "a log that ends before 31 December, an
-- empty one too"
pub data AppliesAt (s : List ℕ) : ℕ → LogRefusal → Type 0 where
  too_long : log_most < length s → AppliesAt s 0 LogTooLong
  broken : {rs : List Record} → Breaks rs s → AppliesAt s (length rs + 1) RecordBroken
  wrong : {before : List Record} {cs : Record} {refusal : LogRefusal} → RecordAt s before cs → Applies before cs refusal
      → AppliesAt s (length before + 1) refusal
  ends_early : {rs : List Record} → FileOf rs s
      → ((r : Record) (d : Date) → Last rs r → IsDate (date_text r) d → IsEve d → ⊥) → AppliesAt s 0 WrongDate

-- 1 before all; then records from the front, in each 2, 3, 7, 14; then the log's end
pub data Sooner : ℕ → LogRefusal → ℕ → LogRefusal → Type 0 where
  too_long_first : {m n : ℕ} {refusal : LogRefusal} → number LogTooLong < number refusal → Sooner m LogTooLong n refusal
  from_the_front : {m n : ℕ} {refusal other : LogRefusal} → 1 ≤ m → m < n → Sooner m refusal n other
  in_that_order : {n : ℕ} {refusal other : LogRefusal} → 1 ≤ n → number refusal < number other
      → Sooner n refusal n other
  then_the_end : {m : ℕ} {refusal : LogRefusal} → 1 ≤ m → Sooner m refusal 0 WrongDate

-- the first refusal: it applies, and none that applies is sooner
abbrev pub First : List ℕ → ℕ → LogRefusal → Type 0
First s n refusal = FirstOf (AppliesAt s) Sooner n refusal

-- what is said of a log in these numbers: what it comes to, or the first refusal's number and its record
pub data LogGets (s : List ℕ) : Says → Type 0 where
  comes_to : {o : Outdoors} → KeepsLog s o → LogGets s (gives o)
  refused : {n : ℕ} {refusal : LogRefusal} → First s n refusal → LogGets s (refuses (number refusal) n)

-- 02, W8, of a record that is handed in (01: "A public call handed a record in place of a file checks it too") or of a
-- file: its refusal, or what is said of its herds. To be believed.
use Rattle.std.specs.Prelude.{ℕ, ◌≡◌, List, Ok}
use Rattle.farm.specs.declared.Herd.{Herd}
use Rattle.farm.specs.declared.Farm.{Farm}
use Rattle.farm.specs.declared.Refusal.{Refusal}
use Rattle.farm.specs.Answers.{Accepted, Checked, Answer}
use Rattle.checks.specs.Checks.{check_farm, herds_of}
use Rattle.checks.specs.Refusals.{AppliesAt, FirstOfRecord, farm}
use Rattle.above_line.specs.declared.Above.{Above}
use Rattle.above_line.specs.Line.{Says}
use Rattle.base.specs.Refused.{refuse}

-- of a farm's record, or of a file
abbrev pub LineAnswer : Type 0
LineAnswer = Answer Above

-- of herds that were checked, or read, with this result
pub data Answers (line : ℕ) (hs : List Herd) : Checked → LineAnswer → Type 0 where
  screened : {a : Above} → Says line hs a → Answers line hs Accepted (Ok a)
  refused : {refusal : Refusal} {at_record : ℕ}
      → Answers line hs (refuse refusal at_record) (refuse refusal at_record)

-- of a farm's record
abbrev pub FarmAnswers : ℕ → Farm → LineAnswer → Type 0
FarmAnswers line f r = Answers line (herds_of f) (check_farm f) r

-- the same by the refusals that apply to the record; proofs/Answers.antt shows that it is that
pub record FarmByTheRules (line : ℕ) (f : Farm) (r : LineAnswer) : Type 0 where
  pub refused : {refusal : Refusal} → FirstOfRecord (farm f) refusal → r ≡ refuse refusal 0
  pub screened : {a : Above} → ((place : ℕ) (refusal : Refusal) → AppliesAt (farm f) place refusal → ⊥)
      → Says line (herds_of f) a → r ≡ Ok a

-- The steps of the calls: a farm that is checked, or read, and accepted is one of which the line's answer is found.
-- Assumes nothing.
use Rattle.base.specs.declared.refusals.Refused.{Refused}
use Rattle.std.specs.Prelude.{Ok, Err}
use Prim.Native.Nat.{ℕ}
use mathlib.Core.Path.{◌≡◌, sym, ap, ◌∙◌}
use mathlib.Core.List.{List}
use Rattle.farm.specs.declared.Farm.{Farm}
use Rattle.farm.specs.declared.Refusal.{Refusal}
use Rattle.farm.specs.Answers.{Accepted, Checked}
use Rattle.checks.specs.Checks.{check_farm, herds_of}
use Rattle.limits.specs.declared.Source.{Source}
use Rattle.limits.specs.Limits.{limits_of}
use Rattle.reader.specs.declared.FileAnswer.{FileAnswer}
use Rattle.reader.specs.Files.{read_of}
use Rattle.rules_theorems.proofs.Passing.{accepted-passes}
use Rattle.above_line.specs.declared.Above.{Above}
use Rattle.above_line.specs.Line.{Says}
use Rattle.above_line.specs.Answers.{screened, refused, FarmAnswers}
use Rattle.line_calls.specs.Files.{FileAnswers}
use Rattle.base.specs.Refused.{refuse}

module _ (f : Farm) (k : Checked) (q : k ≡ check_farm f) (line : ℕ) where
  pub farm-passes : k ≡ Accepted → check_farm f ≡ Accepted
  farm-passes e = sym q ∙ e

  pub farm-screened : (a : Above) → k ≡ Accepted → Says line (herds_of f) a → FarmAnswers line f (Ok a)
  farm-screened a e s = rw (farm-passes e) (screened s)

  pub farm-refused : (why : Refused Refusal) → k ≡ Err why → FarmAnswers line f (Err why)
  farm-refused why e = rw (← q, e) refused

pub ruleset farm_steps = (farm-passes, farm-screened, farm-refused)

module _ (source : Source) (s : List ℕ) (a : FileAnswer) (q : a ≡ read_of (limits_of source) s) (line : ℕ) where
  pub file-passes : a.checked ≡ Accepted → check_farm a.farm ≡ Accepted
  file-passes e =
      accepted-passes source s a.farm (sym q ∙ ap (λ (k : Checked). record { checked = k; farm = a.farm }) e)

  pub file-screened : (x : Above) → a.checked ≡ Accepted → Says line (herds_of a.farm) x
      → FileAnswers source s line (Ok x)
  file-screened x e says = rw (← q, e) (screened says)

  pub file-refused : (why : Refused Refusal) → a.checked ≡ Err why
      → FileAnswers source s line (Err why)
  file-refused why e = rw (← q, e) refused

pub ruleset file_steps = (file-passes, file-screened, file-refused)

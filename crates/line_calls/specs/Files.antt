-- 02, W8, of a file: its refusal, or what is said of the herds of its farm. And the same by the rules that a file keeps
-- or breaks (crate `rules_theorems`); proofs/Files.antt shows that it is that. To be believed.
use Rattle.std.specs.Prelude.{ℕ, ◌≡◌, List, Ok}
use Rattle.farm.specs.declared.Farm.{Farm}
use Rattle.farm.specs.declared.Refusal.{Refusal}
use Rattle.checks.specs.Checks.{herds_of}
use Rattle.limits.specs.declared.Source.{Source}
use Rattle.limits.specs.Limits.{limits_of}
use Rattle.reader.specs.Files.{read_of}
use Rattle.rules_theorems.specs.Rules.{allowed, KeepsRules}
use Rattle.rules_theorems.specs.Refusals.{First}
use Rattle.above_line.specs.declared.Above.{Above}
use Rattle.above_line.specs.Line.{Says}
use Rattle.above_line.specs.Answers.{Answers, LineAnswer}
use Rattle.base.specs.Refused.{refuse}

abbrev pub FileAnswers : Source → List ℕ → ℕ → LineAnswer → Type 0
FileAnswers source s line r =
    Answers line (herds_of (read_of (limits_of source) s).farm) (read_of (limits_of source) s).checked r

pub record LineByTheRules (source : Source) (s : List ℕ) (line : ℕ) (r : LineAnswer) : Type 0 where
  pub refused : {n : ℕ} {refusal : Refusal} → First (allowed source) s n refusal → r ≡ refuse refusal n
  pub screened : {f : Farm} {a : Above} (k : KeepsRules (allowed source) s f) → Says line k.says.herds a
      → r ≡ Ok a

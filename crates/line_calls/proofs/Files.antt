-- 02, W8: the answer of a file is what the rules ask. Assumes nothing.
use Prim.Native.Nat.{ℕ}
use mathlib.Core.Path.{◌≡◌, ap, ◌∙◌}
use mathlib.Core.List.{List}
use Rattle.farm.specs.declared.Farm.{Farm}
use Rattle.checks.specs.Checks.{herds_of}
use Rattle.limits.specs.declared.Source.{Source}
use Rattle.limits.specs.Limits.{limits_of}
use Rattle.reader.specs.declared.FileAnswer.{FileAnswer}
use Rattle.reader.specs.Files.{read_of, accepted}
use Rattle.rules_theorems.specs.Rules.{allowed, farm_of, KeepsRules}
use Rattle.rules_theorems.proofs.Farms.{herds-of}
use Rattle.rules_theorems.proofs.Accepts.{accepts-exactly}
use Rattle.rules_theorems.proofs.Refuses.{first-refusal}
use Rattle.above_line.proofs.Answers.{answers-refusal, answers-herds}
use Rattle.above_line.specs.Answers.{LineAnswer}
use Rattle.line_calls.specs.Files.{FileAnswers, LineByTheRules}

-- a file that keeps the rules: it is read, and the herds are those that its records say
module _ (source : Source) {s : List ℕ} {f : Farm} (k : KeepsRules (allowed source) s f) where
  read_as : read_of (limits_of source) s ≡ accepted (farm_of k.says.herds)
  read_as = (accepts-exactly source s f).1 k ∙ ap accepted k.says.is

  herds-read : herds_of (read_of (limits_of source) s).farm ≡ k.says.herds
  herds-read = ap (λ (a : FileAnswer). herds_of a.farm) read_as ∙ herds-of k.says.herds

pub line-by_the_rules : (source : Source) (s : List ℕ) (line : ℕ) {r : LineAnswer} → FileAnswers source s line r
    → LineByTheRules source s line r
line-by_the_rules source s line a =
    record {
      refused = λ {n} {refusal} x.
          answers-refusal a (ap (λ (y : FileAnswer). y.checked) ((first-refusal source s n refusal).1 x));
      screened = λ k says.
          answers-herds a (ap (λ (y : FileAnswer). y.checked) (read_as source k)) (rw (herds-read source k) says);
    }

-- 02, W8, of a record that is handed in: the answer is the first of 01's refusals that applies, or what is said of its
-- herds; and there is one such answer. Assumes nothing.
use Rattle.base.specs.declared.refusals.Refused.{Refused}
use Rattle.std.specs.Prelude.{Ok, Err}
use Prim.Native.Nat.{ℕ}
use mathlib.Core.Path.{◌≡◌, refl, ap}
use mathlib.Core.List.{List}
use Rattle.base.proofs.Clash.{clash}
use Rattle.base.specs.Refused.{refuse}
use Rattle.farm.specs.declared.Herd.{Herd}
use Rattle.farm.specs.declared.Farm.{Farm}
use Rattle.farm.specs.declared.Refusal.{Refusal}
use Rattle.farm.specs.Answers.{Accepted, Checked}
use Rattle.checks.specs.Refusals.{farm}
use Rattle.checks.proofs.Refuses.{record_refused, record_accepted}
use Rattle.above_line.specs.declared.Above.{Above}
use Rattle.above_line.specs.Line.{Says}
use Rattle.above_line.specs.Answers.{Answers, screened, refused, FarmAnswers, FarmByTheRules, LineAnswer}
use Rattle.above_line.proofs.Promises.{one_answer}

module _ {line : ℕ} {hs : List Herd} where
  pub answers-refusal : {k : Checked} {r : LineAnswer} {why : Refused Refusal} → Answers line hs k r
      → k ≡ Err why → r ≡ Err why
  answers-refusal (screened s) e = clash cc
  answers-refusal refused e = cc

  pub answers-herds : {k : Checked} {r : LineAnswer} {a : Above} → Answers line hs k r → k ≡ Accepted
      → Says line hs a → r ≡ Ok a
  answers-herds (screened s) e t = ap Ok (one_answer s t)
  answers-herds refused e t = clash cc

  pub one-line-answer : {k : Checked} {r q : LineAnswer} → Answers line hs k r → Answers line hs k q → r ≡ q
  one-line-answer a (screened t) = answers-herds a refl t
  one-line-answer a refused = answers-refusal a refl

pub farm-by_the_rules : (line : ℕ) (f : Farm) {r : LineAnswer} → FarmAnswers line f r → FarmByTheRules line f r
farm-by_the_rules line f a =
    record {
      refused = λ x. answers-refusal a ((record_refused (farm f) 0 _).1 (x, refl));
      screened = λ fine s. answers-herds a ((record_accepted (farm f)).1 fine) s;
    }

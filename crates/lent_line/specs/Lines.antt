-- 02, W8, of a slice of herds and a count: the answer of the farm of the first `count` herds. And the same by the
-- refusals that apply to the slice and the count (crate `farm_calls`); proofs/Lines.antt shows that it is that. To be
-- believed.
use Rattle.std.specs.Prelude.{ℕ, ◌≡◌, List, take, Ok}
use Rattle.farm.specs.declared.Herd.{Herd}
use Rattle.farm.specs.declared.Refusal.{Refusal}
use Rattle.lent.specs.Laid.{farm_in}
use Rattle.farm_calls.specs.Refusals.{AppliesIn, FirstIn}
use Rattle.above_line.specs.declared.Above.{Above}
use Rattle.above_line.specs.Line.{Says}
use Rattle.above_line.specs.Answers.{FarmAnswers, LineAnswer}
use Rattle.base.specs.Refused.{refuse}

abbrev pub AnswersIn : List Herd → ℕ → ℕ → LineAnswer → Type 0
AnswersIn herds count line r = FarmAnswers line (farm_in herds count) r

pub record LineIn (herds : List Herd) (count line : ℕ) (r : LineAnswer) : Type 0 where
  pub refused : {refusal : Refusal} → FirstIn herds count refusal → r ≡ refuse refusal 0
  pub screened : {a : Above} → ((place : ℕ) (refusal : Refusal) → AppliesIn herds count place refusal → ⊥)
      → Says line (take count herds) a → r ≡ Ok a

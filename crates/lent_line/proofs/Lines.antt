-- 02, W8: the answer of a slice of herds and a count is the first refusal that applies to them, or what is said of the
-- first `count` herds; there is one, and what stands behind the count says nothing. Assumes nothing.
use Prim.Native.Nat.{ℕ, ◌≤◌}
use mathlib.Core.Path.{◌≡◌, refl, sym, ap, subst, ◌∙◌}
use mathlib.Core.List.{List}
use lib.ListN.{length, take}
use Rattle.farm.specs.declared.Herd.{Herd}
use Rattle.farm.specs.declared.Farm.{Farm}
use Rattle.lent.specs.Laid.{farm_in}
use Rattle.lent.proofs.Loaded.{loaded_herds}
use Rattle.farm_calls.proofs.Refusals.{in_refused, in_accepted, accepted-within, same-farm}
use Rattle.above_line.specs.Answers.{FarmAnswers, LineAnswer}
use Rattle.above_line.proofs.Answers.{answers-refusal, answers-herds, one-line-answer}
use Rattle.lent_line.specs.Lines.{AnswersIn, LineIn}

-- the farm that is loaded, and its answer: the step of the call
module _ (herds : List Herd) (count : ℕ) (f : Farm) (line : ℕ) where
  pub is-answer : (r : LineAnswer) → f ≡ farm_in herds count → FarmAnswers line f r → AnswersIn herds count line r
  is-answer r e a = subst (λ (g : Farm). FarmAnswers line g r) e a

module _ (herds : List Herd) (count line : ℕ) where
  pub line_in : {r : LineAnswer} → AnswersIn herds count line r → LineIn herds count line r
  line_in a =
      record {
        refused = λ {refusal} x. answers-refusal a ((in_refused herds count 0 refusal).1 (x, refl));
        screened = λ none says.
            let e = (in_accepted herds count).1 none in
            let w = accepted-within herds count e in
            answers-herds a e (rw (loaded_herds herds count w.0 w.1) says);
      }

  pub one_in : {r q : LineAnswer} → AnswersIn herds count line r → AnswersIn herds count line q → r ≡ q
  one_in a b = one-line-answer a b

pub line-of_the_first : (a b : List Herd) (count line : ℕ) → count ≤ length a → count ≤ length b
    → take count a ≡ take count b → {r q : LineAnswer} → AnswersIn a count line r → AnswersIn b count line q → r ≡ q
line-of_the_first a b count line h k e {r} {q} x y =
    one-line-answer x (is-answer a count (farm_in b count) line q (sym (same-farm a b count h k e)) y)

-- The line of an answer, from the calls that put it: each law in the form that a place of src/lib.rt wants. Assumes
-- nothing.
use Rattle.std.specs.Prelude.{Ok, Err}
use Prim.Native.Nat.{ℕ}
use mathlib.Core.Path.{◌≡◌}
use mathlib.Core.List.{List}
use Rattle.base.specs.Text.{bytes}
use Rattle.base.specs.Wrote.{Wrote}
use Rattle.base.specs.declared.refusals.Refused.{Refused}
use Rattle.farm.specs.declared.Refusal.{Refusal}
use Rattle.farm.specs.Refusals.{number}
use Rattle.refusal_line.specs.Lines.{refusal_line}
use Rattle.above_line.specs.declared.Above.{Above}
use Rattle.above_line.specs.declared.Above.TheVariants.{Yes, No}
use Rattle.above_line.specs.Answers.{LineAnswer}
use Rattle.lines_above.specs.Lines.{counted, above_line, answer_line}

module _ {old new : List ℕ} {r : ℕ} where
  pub line-yes : {a : Above} {n : ℕ} → a ≡ Yes n → Wrote old 0 (counted (bytes "yes,") n) new r
      → Wrote old 0 (above_line a) new r
  line-yes e w = rw e w

  pub line-no : {a : Above} {n : ℕ} → a ≡ No n → Wrote old 0 (counted (bytes "no,") n) new r
      → Wrote old 0 (above_line a) new r
  line-no e w = rw e w

  pub line-screened : {x : LineAnswer} {a : Above} → x ≡ Ok a → Wrote old 0 (above_line a) new r
      → Wrote old 0 (answer_line x) new r
  line-screened e w = rw e w

  pub line_refused : {x : LineAnswer} {why : Refused Refusal} → x ≡ Err why
      → Wrote old 0 (refusal_line (number why.0) why.1) new r → Wrote old 0 (answer_line x) new r
  line_refused e w = rw e w

pub ruleset line_steps = (line-yes, line-no, line-screened, line_refused)

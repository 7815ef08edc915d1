-- 02, W11: "For any other farm handed in, each total moves by exactly the old and the new herd's figures." To be
-- believed.
use Rattle.std.specs.Prelude.{ℕ, List, ℤ, ◌+ℤ◌, ◌-ℤ◌}
use Rattle.farm.specs.declared.Herd.{Herd}
use Rattle.outputs.specs.Grams.{total_at}
use Rattle.model.specs.Answers.{herd_figures}
use Rattle.books.specs.declared.Step.{Step}
use Rattle.books.specs.declared.Step.TheVariants.{Add, Replace, Remove}
use Rattle.step_theorems.specs.Refusals.{NamedAt}
use Rattle.step_theorems.specs.Places.{entry}

-- what a herd's figures come to in the total of a number
abbrev pub own : ℕ → Herd → ℤ
own n h = total_at (herd_figures h).grams n

-- the total of the number n was so many grams, and is so many after a step with h
pub data Moves (h : Herd) (array : List Herd) (count n : ℕ) (grams : ℤ) : Step → ℤ → Type 0 where
  by_new : Moves h array count n grams Add (grams +ℤ own n h)
  by_both : {place : ℕ} → NamedAt array count h place
      → Moves h array count n grams Replace ((grams -ℤ own n (entry array place)) +ℤ own n h)
  by_old : {place : ℕ} → NamedAt array count h place
      → Moves h array count n grams Remove (grams -ℤ own n (entry array place))

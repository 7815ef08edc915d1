-- 02, W8: "Answer yes or no for an accepted farm, stopping at the first herd that takes the running nh3_nlivestock
-- above the line, and say how many herds were added up. The answer equals comparing the full total, and the count is
-- the number of herds in the shortest beginning of the farm whose total passes the line, or all herds if none does."
-- What is answered, without a word of how it is found. proofs/Promises.antt shows that there is exactly one such
-- answer, and what holds of it. To be believed.
use Rattle.std.specs.Prelude.{ℕ, ◌≤◌, ◌<◌, Bool, true, false, List, map, length, take, ℤ, pos, ◌<ℤ◌}
use Rattle.farm.specs.declared.Herd.{Herd}
use Rattle.outputs.specs.Grams.{total, totals_of}
use Rattle.model.specs.Answers.{herd_figures}
use Rattle.above_line.specs.declared.Above.{Above}
use Rattle.above_line.specs.declared.Above.TheVariants.{Yes, No}

-- the nh3_nlivestock of a farm of these herds
unfoldable pub livestock : List Herd → ℤ
livestock hs = total "nh3_nlivestock" (totals_of (map herd_figures hs))

-- it is above the line: "A total equal to the line is a no."
abbrev pub Passes : ℕ → List Herd → Type 0
Passes line hs = pos line <ℤ livestock hs

-- the first n herds are the shortest beginning of the farm whose total passes the line
pub record Shortest (line : ℕ) (hs : List Herd) (n : ℕ) : Type 0 where
  pub among : n ≤ length hs
  pub passes : Passes line (take n hs)
  pub no_shorter : (m : ℕ) → m < n → Passes line (take m hs) → ⊥

pub data Says (line : ℕ) (hs : List Herd) : Above → Type 0 where
  yes : {n : ℕ} → Shortest line hs n → Says line hs (Yes n)
  -- "or all herds if none does"
  no : ((m : ℕ) → Passes line (take m hs) → ⊥) → Says line hs (No (length hs))

-- the answer without its count
abbrev pub is_yes : Above → Bool
is_yes (Yes n) = true
is_yes (No n) = false

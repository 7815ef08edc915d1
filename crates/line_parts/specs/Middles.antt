-- What stands in a line between its owner and its numbers, by the number of the name: all of them in one table, and
-- where each starts. No reader has to believe it.
use Rattle.std.specs.Prelude.{ℕ, ◌≡◌, List, ◌++◌, map, T, ltb, leb, length}
use Rattle.base.specs.Runs.{joined, starts, all}
use Rattle.base.specs.Text.{bytes}

-- more of the module behind the path, and the name
pub record Entry : Type 0 where
  pub under : List ℕ
  pub name : List ℕ

abbrev pub middle_of : Entry → List ℕ
middle_of e = e.under ++ bytes "," ++ e.name ++ bytes ","

abbrev pub middles : List Entry → List (List ℕ)
middles es = map middle_of es

-- the table has `count` middles, none longer than `longest`, and the lines are numbers of these
pub record Tabled (longest count : ℕ) (table from lines : List ℕ) : Type 0 where
  pub texts : List (List ℕ)
  pub table_is : table ≡ joined texts
  pub starts_are : from ≡ starts 0 texts
  pub short : T (all (λ (t : List ℕ). leb (length t) longest) texts)
  pub as_many : count ≡ length texts
  pub are_numbers : T (all (λ (n : ℕ). ltb n (length texts)) lines)

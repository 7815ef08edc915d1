-- The records as the code goes about them: by the numbers of names, with texts from a table. No reader has to believe
-- it: proofs/AsListed.antt shows that they are those of specs/Lines.antt.
use Rattle.std.specs.Prelude.{ℕ, ◌+◌, ◌≡◌, List, [], ◌++◌, map, ltb, length, get_or}
use Rattle.base.specs.Pick.{pick}
use Rattle.base.specs.Part.{part}
use Rattle.base.specs.Text.{bytes}
use Rattle.line_parts.specs.Fields.{each}
use Rattle.line_parts.specs.Middles.{Entry, Tabled}
use Rattle.cuts.specs.Names.{Row, rows}
use Rattle.lines_cuts.specs.Lines.{numbers_of}

-- what stands in a record between its owner and its numbers, by the number of the name
abbrev pub entries : List Entry
entries = map (λ (r : Row). record { under = bytes "::" ++ bytes r.section; name = bytes r.text }) rows

unfoldable pub put_together : List ℕ → List ℕ → ℕ → ℕ → List ℕ
put_together owner middle off by = pick (ltb 0 by) (owner ++ middle ++ numbers_of off by) []

-- the records of these numbers; a middle stands in the table from its start to the next
unfoldable pub numbered : List ℕ → List ℕ → List ℕ → List ℕ → List ℕ → List ℕ → List ℕ
numbered owner table from offs bys lines =
    each
    (λ (n : ℕ). put_together owner (part table (get_or from n 0) (get_or from (n + 1) 0)) (get_or offs n 0)
    (get_or bys n 0))
    lines

-- the table has a middle for each number, of any length, and the lines are numbers of these
pub record HasMiddles (table from offs bys lines : List ℕ) : Type 0 where
  pub tabled : Tabled (length table) (length offs) table from lines
  pub as_many : length bys ≡ length offs

-- What the code keeps of the bytes that it has passed: whether the last is a CR, and whether their quote bytes are
-- even in number. No reader has to believe it.
use Rattle.std.specs.Prelude.{ℕ, Bool, false, not, List, eqb, take, drop}
use Rattle.base.specs.Pick.{pick, if◌is◌then◌else◌}
use Rattle.spreadsheet.specs.declared.Passed.{Passed}
use Rattle.spreadsheet.specs.Faults.{cr, lf, quote, last, quotes, even}
use Rattle.spreadsheet.specs.Mended.{Change, entries, mended_from, changes_from}

abbrev pub passed_of : List ℕ → Passed
passed_of before = record { cr = eqb (last 0 before) cr; even = even (quotes before) }

-- one byte more
abbrev pub and_byte : Passed → ℕ → Passed
and_byte p b = record { cr = eqb b cr; even = if b is quote then not p.even else p.even }

abbrev pub bare_after : Passed → ℕ → Bool
bare_after p b = if b is lf then pick p.cr false p.even else false

-- ---- of the file s from a place on: the mended text, its changes, and their entries

abbrev pub text_from : List ℕ → ℕ → List ℕ
text_from s from = mended_from (take from s) (drop from s)

abbrev pub crs_from : List ℕ → ℕ → List Change
crs_from s from = changes_from (take from s) (drop from s)

abbrev pub list_from : List ℕ → ℕ → List ℕ
list_from s from = entries (crs_from s from)

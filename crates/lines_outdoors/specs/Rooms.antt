-- How the code puts the three lines, and the room that it asks for. No reader has to believe it.
use Rattle.std.specs.Prelude.{ℕ, ◌+◌, ◌≤◌, List, ◌++◌, length}
use Rattle.base.specs.Wrote.{Wrote}
use Rattle.decimal.specs.Writing.{whole_of}
use Rattle.decimal.specs.Rooms.{digits_most}

-- a text, and a whole number behind it, were put from `at` on
pub record PutNumber (old : List ℕ) (at : ℕ) (text : List ℕ) (n : ℕ) (new : List ℕ) (next : ℕ) : Type 0 where
  pub wrote : Wrote old at (text ++ whole_of n) new next
  pub short : next ≤ at + length text + digits_most

-- longer than the three lines
abbrev pub lines_room : ℕ
lines_room = 128

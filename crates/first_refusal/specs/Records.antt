-- A record of a file, and where it stands among the others, by the grammar. To be believed.
use Rattle.std.specs.Prelude.{ℕ, List}
use Rattle.grammar.specs.Grammar.{Front, Before}

-- a record: the contents of its fields
abbrev pub Record : Type 0
Record = List (List ℕ)

-- the file has this record behind these
pub record RecordAt (s : List ℕ) (before : List Record) (cs : Record) : Type 0 where
  pub left : List ℕ
  pub past : List ℕ
  pub behind : Before before s left
  pub front : Front cs left past

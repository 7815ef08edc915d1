-- What the reader's outcome says of the file: the words in which the promises of `proofs/Promises.antt` are stated.
use Rattle.std.specs.Prelude.{ℕ, ◌<◌, ◌≤◌, List, ◌≡◌, length, drop}
use Rattle.plain_fields.specs.declared.Place.{Place}
use Rattle.csv_reader.specs.declared.Fields.{Fields}
use Rattle.csv_reader.specs.declared.ReaderPlace.{ReaderPlace}
use Rattle.csv_reader.specs.declared.Step.TheVariants.{Record}
use Rattle.grammar.specs.Grammar.{Front}
use Rattle.grammar.specs.Reading.{◌then◌, reading_of, parts_of}
use Rattle.csv_reader.specs.Places.{parts_at, step_of}

-- a place lies in the file
pub record InFile (s : List ℕ) (p : Place) : Type 0 where
  pub order : p.from ≤ p.to
  pub fits : p.to ≤ length s

pub record Placed (s : List ℕ) (f : Fields) : Type 0 where
  pub first : InFile s f.first
  pub second : InFile s f.second
  pub third : InFile s f.third
  pub fourth : InFile s f.fourth

-- the record at `at`, whose fields are f and past which reading goes on at n: a record of the grammar of these contents
-- stands there, with the bytes from n on left past it; its places hold them and lie in the file; and the rest of the
-- file reads as it and what is read from n on
pub record ReadAs (s : List ℕ) (at : ℕ) (f : Fields) (n : ReaderPlace) : Type 0 where
  pub contents : List (List ℕ)
  pub stands : Front contents (drop at s) (drop n.at s)
  pub holds : parts_at s f ≡ parts_of contents
  pub placed : Placed s f
  pub reads : reading_of (drop at s) ≡ contents then reading_of (drop n.at s)
  pub past : at < n.at
  pub fits : n.at ≤ length s

-- the reader finds a record of these contents at `at`, with these bytes left past it
pub record Finds (s : List ℕ) (at : ℕ) (cs : List (List ℕ)) (left : List ℕ) : Type 0 where
  pub fields : Fields
  pub next : ReaderPlace
  pub is : step_of s at ≡ Record fields next
  pub holds : parts_at s fields ≡ parts_of cs
  pub rest : left ≡ drop next.at s

-- How long the records of cuts can be: the room that `put_herd` asks for. No reader has to believe it.
use Rattle.std.specs.Prelude.{ℕ}

-- the records of any accepted herd: twenty, of pigs with a biotrickling filter and a label in quotes
-- (proofs/Lengths.antt)
abbrev pub longest_cuts : ℕ
longest_cuts = 1752

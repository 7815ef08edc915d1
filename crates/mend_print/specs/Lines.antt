-- The list of changes as it is printed: a record `KIND,PLACE` with CRLF each. To be believed.
use Rattle.std.specs.Prelude.{ℕ, ◌+◌, List, [], ◌∷◌, ◌++◌}
use Rattle.decimal.specs.Writing.{pair_of}
use Rattle.decimal.specs.Rooms.{digits_most}

-- of numbers that are a kind and a place, one after the other
unfoldable pub lines_of : List ℕ → List ℕ
lines_of [] = []
lines_of (kind ∷ []) = []
lines_of (kind ∷ place ∷ rest) = pair_of kind place ++ lines_of rest

-- ---- room for it; no reader has to believe this

-- a number of the list, and what stands behind it
abbrev pub number_room : ℕ
number_room = digits_most + 2

-- so many numbers of the list are printed at a time
abbrev pub round_most : ℕ
round_most = 2048

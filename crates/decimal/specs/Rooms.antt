-- How long whole numbers can be: the room that their writers ask for. No reader has to believe it.
use Rattle.std.specs.Prelude.{ℕ, ◌+◌}

-- the digits that a number of 64 bits has at most
abbrev pub digits_most : ℕ
digits_most = 20

-- two such numbers, a comma and CRLF
abbrev pub pair_room : ℕ
pair_room = digits_most + 1 + digits_most + 2

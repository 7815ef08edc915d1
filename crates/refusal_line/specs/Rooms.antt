-- How long a refusal's line can be. No reader has to believe it.
use Rattle.std.specs.Prelude.{ℕ, ◌+◌}
use Rattle.decimal.specs.Rooms.{pair_room}

-- `refused,`, and both numbers with what stands around them
abbrev pub line_room : ℕ
line_room = 8 + pair_room

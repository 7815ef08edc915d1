-- How much room the answer to a step takes. No reader has to believe it.
use Rattle.std.specs.Prelude.{ℕ, length, Err}
use Rattle.refusal_line.specs.Rooms.{line_room}
use Rattle.outputs.specs.declared.Totals.{Totals}
use Rattle.listing.specs.Listing.{totals_listing}
use Rattle.books.specs.Rules.{Decided, Done}

-- the listing's own; for a refusal's line that of any
abbrev pub room_for : Decided → Totals → ℕ
room_for Done t = length (totals_listing t)
room_for (Err refusal) t = line_room

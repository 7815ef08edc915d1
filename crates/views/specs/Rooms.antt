-- How long a view of a herd, of a farm and of a file can be: the room that the writers ask for. No reader has to
-- believe it.
use Rattle.std.specs.Prelude.{ℕ}
use Rattle.limits.specs.declared.Source.{Source}
use Rattle.limits.specs.declared.Source.TheVariants.{StandardInput, Cooperative}
use Rattle.limits.specs.Limits.{input_herds, cooperative_herds}
use Rattle.listing_room.specs.Bounds.{herd_room, totals_room, farm_room}

-- no view lists more of a herd than its figures can have
abbrev pub herd_view_room : ℕ
herd_view_room = herd_room

-- behind the herds stand the totals, or nothing
abbrev pub behind_room : ℕ
behind_room = totals_room

-- by how many herds the farm has
abbrev pub view_room : ℕ → ℕ
view_room herds = farm_room herds

-- by where the file comes from, which says how many herds there may be
abbrev pub output_room : Source → ℕ
output_room StandardInput = view_room input_herds
output_room Cooperative = view_room cooperative_herds

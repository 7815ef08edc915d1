-- A farm's record has room for the herds of every file that is read. Assumes nothing.
use Prim.Native.Nat.{◌≤◌}
use lib.Dec.{lit≤}
use Rattle.farm.specs.Limits.{herds_most}
use Rattle.limits.specs.declared.Source.{Source}
use Rattle.limits.specs.declared.Source.TheVariants.{StandardInput, Cooperative}
use Rattle.limits.specs.Limits.{limits_of}

pub has_room : (source : Source) → (limits_of source).herds ≤ herds_most
unfolding limits_of
has_room StandardInput = lit≤ tt
has_room Cooperative = lit≤ tt

-- The limits that the code goes by are those that are allowed, and a farm's record has room for as many herds. Assumes
-- nothing.
use Prim.Native.Nat.{◌≤◌}
use mathlib.Core.Path.{◌≡◌, refl}
use Rattle.farm.specs.Limits.{herds_most}
use Rattle.limits.specs.declared.Source.{Source}
use Rattle.limits.specs.declared.Source.TheVariants.{StandardInput, Cooperative}
use Rattle.limits.specs.Limits.{limits_of}
use Rattle.limits.proofs.Room.{has_room}
use Rattle.rules_theorems.specs.Rules.{allowed}

pub as-allowed : (source : Source) → limits_of source ≡ allowed source
unfolding limits_of allowed
as-allowed StandardInput = refl
as-allowed Cooperative = refl

pub allowed-fit : (source : Source) → (allowed source).herds ≤ herds_most
allowed-fit source = rw (as-allowed source) at (has_room source)

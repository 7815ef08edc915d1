-- `bench_repeat::listed` is safe and ends: a farm that is read passes the record checks, so its listing may be put
-- without them. Assumes nothing.
use Prim.Native.Nat.{ℕ, ◌≤◌}
use native.Mathlib.Omega.{arith}
use borrow.Author.Rules.{rules}
use Rattle.limits.specs.declared.Source.{Source}
use Rattle.limits.specs.declared.Source.TheVariants.{StandardInput, Cooperative}
use Rattle.views.specs.Rooms.{output_room}
use Rattle.views.proofs.FileSteps.{passes, has_room}
use Rattle.bench_repeat.proofs.listed.Goals as goal

-- room for a cooperative's file is room for any
larger : (source : Source) (room : ℕ) → output_room Cooperative ≤ room → output_room source ≤ room
larger StandardInput room h = omega (arith, h)
larger Cooperative room h = h

pub repeat_listing-requires : goal.repeat_listing-requires
repeat_listing-requires c = search (rules, passes, has_room, larger)

-- `sums::total` meets its contract: the sum so far and the addends that are left make the total. Assumes
-- nothing.
use Prim.Native.Nat.{◌+◌}
use lib.ListN.{get_or}
use Rattle.base.specs.Runs.{starts}
use Rattle.outputs.specs.Names.{addends}
use Rattle.outputs.specs.Grams.{total_at}
use Rattle.sums.proofs.Addends.{Adding}
use Rattle.sums.proofs.total.Given as goal

abbrev pub invariant-loop-k : goal.invariant-loop-k
invariant-loop-k l = Adding l.f.grams (total_at l.f.grams l.t) (get_or (starts 0 addends) (l.t + 1) 0) l.k l.sum

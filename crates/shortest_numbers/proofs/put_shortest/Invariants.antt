-- `shortest_numbers::put_shortest` meets its contract: each turn leaves a zero out, and nothing is written before the
-- end. Assumes nothing.
use Prim.Native.Nat.{◌≤◌}
use mathlib.Core.Path.{◌≡◌}
use Rattle.shortest_numbers.specs.Shortest.{shortest}
use Rattle.shortest_numbers.proofs.put_shortest.Given as goal

abbrev pub invariant-loop-left : goal.invariant-loop-left
invariant-loop-left l = (l.out ≡ l.initial.out) × (l.m ≤ l.v) × (shortest l.left l.m ≡ shortest l.decimals l.v)

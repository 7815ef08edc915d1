-- `shortest_numbers::whole_part` meets its contract: each turn leaves one decimal out. Assumes nothing.
use Prim.Native.Nat.{◌/◌, ◌^◌}
use mathlib.Core.Path.{◌≡◌}
use Rattle.shortest_numbers.proofs.whole_part.Given as goal

abbrev pub invariant-loop : goal.invariant-loop
invariant-loop l = l.whole ≡ l.v / 10 ^ l.counter

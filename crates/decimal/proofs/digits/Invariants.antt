-- `decimal::digits` meets its contract. The invariant: the digits counted and those of m are one more than those of n.
-- Assumes nothing.
use Prim.Native.Nat.{◌+◌, ◌≤◌}
use mathlib.Core.Path.{◌≡◌}
use Rattle.decimal.specs.Writing.{width}
use Rattle.decimal.proofs.digits.Given as goal

abbrev pub invariant-loop-m : goal.invariant-loop-m
invariant-loop-m l = (l.count + width l.m ≡ 1 + width l.n) × (l.count + l.m ≤ 1 + l.n)

abbrev pub decreases-loop-m : goal.decreases-loop-m
decreases-loop-m l = l.m

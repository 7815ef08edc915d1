-- `digits::scaled` meets its contract. The invariant: x with the zeros that are still to come is v with k zeros.
-- Assumes nothing.
use Prim.Native.Nat.{◌≤◌, ◌-◌, ◌*◌, ◌^◌}
use mathlib.Core.Path.{◌≡◌}
use Rattle.digits.proofs.scaled.Given as goal

abbrev pub invariant-loop : goal.invariant-loop
invariant-loop l = (l.x ≤ l.most) × (l.x * 10 ^ (l.k - l.counter) ≡ l.v * 10 ^ l.k)

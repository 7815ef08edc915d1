-- `decimal::put_lowest` meets its contract. The invariant of both loops: storing the i lowest digits of m gives what
-- storing those at the loop's start gives. Assumes nothing.
use mathlib.Core.Path.{◌≡◌}
use Prim.Native.Nat.{◌≤◌}
use lib.ListN.{length}
use lib.Seq.{sets}
use Rattle.decimal.specs.Writing.{lowest}
use Rattle.decimal.proofs.put_lowest.Given as goal

abbrev pub invariant-loop-i : goal.invariant-loop-i
invariant-loop-i l = (l.i ≤ l.k) × (length l.out ≡ length l.initial.out)
    × (sets l.out l.at (lowest l.i l.m) ≡ sets l.initial.out l.at (lowest l.k l.n))

abbrev pub decreases-loop-i : goal.decreases-loop-i
decreases-loop-i l = l.i

abbrev pub invariant-loop-j : goal.invariant-loop-j
invariant-loop-j l = (length l.out ≡ length l.initial.out)
    × (sets l.out l.at (lowest l.j l.m) ≡ sets l.initial.out l.at (lowest l.initial.i l.initial.m))

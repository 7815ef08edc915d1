-- `digits::fraction` meets its contract. The invariant: what is left of the text from i on, behind x, reads as the
-- whole does. Assumes nothing.
use Prim.Native.Nat.{◌≤◌}
use mathlib.Core.Path.{◌≡◌}
use lib.ListN.{drop}
use Rattle.digits.specs.Digits.{fraction_from, up_to}
use Rattle.digits.proofs.fraction.Given as goal

abbrev pub invariant-loop-i : goal.invariant-loop-i
invariant-loop-i l = (l.x ≤ l.most)
    × (up_to l.most (fraction_from l.k l.x (drop l.i l.s)) ≡ up_to l.most (fraction_from l.left l.v (drop l.at l.s)))

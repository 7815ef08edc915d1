-- `numbers::whole` meets its contract. The invariant: what is left of the text from i on, behind x, reads as the whole
-- does. Assumes nothing.
use Prim.Native.Nat.{◌≤◌}
use mathlib.Core.Path.{◌≡◌}
use lib.ListN.{drop}
use Rattle.numbers.specs.Reading.{whole_from}
use Rattle.digits.specs.Digits.{up_to}
use Rattle.numbers.proofs.whole.Given as goal

abbrev pub invariant-loop-i : goal.invariant-loop-i
invariant-loop-i l = (l.x ≤ l.most)
    × (up_to l.most (whole_from l.decimals l.x (drop l.i l.s))
    ≡ up_to l.most (whole_from l.decimals l.v (drop l.at l.s)))

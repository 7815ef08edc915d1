-- `wide_numbers::spelled` meets its contract. The invariant: what is left of the text, behind x, reads as the whole
-- does. Assumes nothing.
use Prim.Native.Nat.{◌≤◌}
use mathlib.Core.Path.{◌≡◌}
use lib.ListN.{drop}
use Rattle.digits.specs.Digits.{up_to}
use Rattle.numbers.specs.Reading.{whole_from}
use Rattle.wide_numbers.specs.Wide.{wide_most, widened}
use Rattle.wide_numbers.proofs.spelled.Given as goal

abbrev pub invariant-loop-b : goal.invariant-loop-b
invariant-loop-b l = (l.x ≤ wide_most)
    × (widened (up_to wide_most (whole_from 0 l.x (drop l.b-index l.s)))
    ≡ widened (up_to wide_most (whole_from 0 0 l.s)))

-- `quoting::form_of` meets its contract: what is still to be looked at is the name from i on. Assumes nothing.
use Prim.Native.Nat.{◌-◌}
use mathlib.Core.Path.{◌≡◌}
use lib.ListN.{length, drop}
use Rattle.shown_bytes.specs.Shown.{worse}
use Rattle.quoting.specs.Quoted.{form_from}
use Rattle.quoting.proofs.form_of.Given as goal

abbrev pub invariant-loop-i : goal.invariant-loop-i
invariant-loop-i l = worse l.form (form_from (drop l.i l.s)) ≡ form_from l.s

abbrev pub decreases-loop-i : goal.decreases-loop-i
decreases-loop-i l = length l.s - l.i

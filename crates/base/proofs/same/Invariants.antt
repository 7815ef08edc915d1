-- `base::same` meets its contract. The invariant: `all`, and what is left of both from i on, compare as the whole does.
-- Assumes nothing.
use mathlib.Core.Bool.{◌&&◌}
use mathlib.Core.Path.{◌≡◌}
use lib.ListN.{drop}
use Rattle.base.specs.Part.{same_bytes}
use Rattle.base.proofs.same.Given as goal

abbrev pub invariant-loop-i : goal.invariant-loop-i
invariant-loop-i l = (l.all && same_bytes (drop l.i l.a) (drop l.i l.b)) ≡ same_bytes l.a l.b

-- `base::same_letters` meets its contract. The invariant: what is left of both from i on compares as the whole does.
-- Assumes nothing.
use mathlib.Core.Path.{◌≡◌}
use lib.ListN.{drop}
use Rattle.base.specs.Part.{same_bytes, lowered}
use Rattle.base.proofs.same_letters.Given as goal

abbrev pub invariant-loop-i : goal.invariant-loop-i
invariant-loop-i l = same_bytes (lowered (drop l.i l.a)) (drop l.i l.word) ≡ same_bytes (lowered l.a) l.word

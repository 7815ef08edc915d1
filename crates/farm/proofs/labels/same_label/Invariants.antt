-- `farm::labels::same_label` meets its contract. The invariant: the bytes before i are the same exactly where the labels
-- are. Assumes nothing.
use mathlib.Core.Path.{◌≡◌}
use lib.ListN.{take}
use Rattle.base.specs.Part.{same_bytes}
use Rattle.farm.specs.Labels.{same_label}
use Rattle.farm.proofs.labels.same_label.Given as goal

abbrev pub invariant-loop-i : goal.invariant-loop-i
invariant-loop-i l = same_bytes (take l.i l.a.bytes) (take l.i l.b.bytes) ≡ same_label l.a l.b

-- `finding::find_within` meets its contract: the loop looks at the slots from `slot` on. Assumes nothing.
use Rattle.std.specs.Prelude.{Some}
use Prim.Native.Nat.{◌-◌}
use mathlib.Core.Path.{◌≡◌}
use Rattle.finding.specs.Find.{find_slots, find_within}
use Rattle.finding.proofs.find_within.Given as goal

abbrev pub invariant-loop-slot : goal.invariant-loop-slot
invariant-loop-slot l =
    find_slots l.kind (l.to - l.slot) l.slot (Some l.name) ≡ find_within (Some (l.kind, l.from, l.to)) (Some l.name)

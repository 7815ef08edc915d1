-- The line of the number that the code has of a fault is the line of the fault's. Assumes nothing.
use Prim.Native.Nat.{ℕ}
use mathlib.Core.Path.{◌≡◌, ap}
use mathlib.Core.List.{List}
use Rattle.base.specs.Wrote.{Wrote}
use Rattle.base.proofs.Writes.{wrote_as}
use Rattle.farm.specs.declared.Refusal.{Refusal}
use Rattle.farm.specs.Refusals.{number}
use Rattle.refusal_line.specs.Lines.{refusal_line}

pub line_of : (refusal : Refusal) (n r : ℕ) → n ≡ number refusal → {old new : List ℕ} {k : ℕ}
    → Wrote old 0 (refusal_line n r) new k → Wrote old 0 (refusal_line (number refusal) r) new k
line_of refusal n r e w = wrote_as (ap (λ (m : ℕ). refusal_line m r) e) w

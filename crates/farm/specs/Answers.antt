-- What is answered where 01's refusals may be: what was asked for, or the refusal with its record. A check that accepts
-- has nothing to hand back. To be believed.
use Rattle.std.specs.Prelude.{Result, Ok, ⊤}
use Rattle.base.specs.declared.refusals.Refused.{Refused}
use Rattle.farm.specs.declared.Refusal.{Refusal}

abbrev pub Answer : Type 0 → Type 0
Answer A = Result A (Refused Refusal)

abbrev pub Checked : Type 0
Checked = Answer ⊤

pattern abbrev pub Accepted : Checked
Accepted = Ok tt

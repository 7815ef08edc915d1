-- A refusal as an answer: what is refused, and the number of the record that has it, or 0 where it is no record's. In
-- place of the refusal stands its kind: that of a farm file, or that of a gate's log.
use Rattle.std.specs.Prelude.{ℕ, Result, Err}
use Rattle.base.specs.declared.refusals.Refused.{Refused}

abbrev pub refuse : {A R : Type 0} → R → ℕ → Result A (Refused R)
refuse refusal at_record = Err (refusal, at_record)

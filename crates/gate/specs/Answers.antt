-- What the answer to a log says in the refusals' numbers. To be believed.
use Rattle.std.specs.Prelude.{ℕ, Ok, Err}
use Rattle.outdoors.specs.declared.Outdoors.{Outdoors}
use Rattle.gate_days.specs.Refusals.{number}
use Rattle.gate.specs.Logs.{LogAnswer}

-- what the log comes to; or the refusal's number and the record's
pub data Says : Type 0 where
  gives : Outdoors → Says
  refuses : (refusal at_record : ℕ) → Says

abbrev pub says : LogAnswer → Says
says (Ok o) = gives o
says (Err refused) = refuses (number refused.0) refused.1

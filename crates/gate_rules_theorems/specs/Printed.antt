-- What is printed for a log, as records: what its days come to, a name and a value each; or the refusal's. To be
-- believed.
use Rattle.std.specs.Prelude.{ℕ, List, [], ◌∷◌, map, Ok, Err}
use Rattle.first_refusal.specs.Records.{Record}
use Rattle.record_lines.specs.Records.{refusal_fields}
use Rattle.gate_days.specs.Refusals.{number}
use Rattle.gate_rules_theorems.specs.FarmFile.{printed_of, record_of}
use Rattle.gate.specs.Logs.{LogAnswer}

abbrev pub answer_records : LogAnswer → List Record
answer_records (Ok o) = map record_of (printed_of o)
answer_records (Err refused) = refusal_fields (number refused.0) refused.1 ∷ []

abbrev pub field_count : LogAnswer → ℕ
field_count (Ok o) = 2
field_count (Err refused) = 3

-- What is printed for a log is RFC 4180 records, each ended by CRLF: three of two fields, or the refusal's of three.
-- Assumes nothing.
use Rattle.std.specs.Prelude.{Ok, Err}
use Prim.Native.Nat.{ℕ, ◌/◌, ◌%◌}
use mathlib.Core.Path.{refl, subst}
use mathlib.Core.List.{List, [], ◌∷◌, ◌++◌, map, append_assoc}
use Rattle.base.specs.Text.{bytes}
use Rattle.grammar.specs.Grammar.{Plain, FieldOf, RecordOf}
use Rattle.record_lines.specs.Records.{RecordsOf}
use Rattle.record_lines.proofs.Plain.{past-plain, plain-append, plain-whole}
use Rattle.record_lines.proofs.Records.{no-records, line, both, refusal-read}
use Rattle.outdoors.specs.declared.Outdoors.{Outdoors}
use Rattle.lines_outdoors.specs.Lines.{tenths_of, outdoors_lines}
use Rattle.gate_days.specs.Refusals.{number}
use Rattle.gate.specs.Logs.{read_log, LogAnswer}
use Rattle.gate_answer.specs.Lines.{answer_lines}
use Rattle.gate_answer.specs.Program.{log_output}
use Rattle.gate_rules_theorems.specs.FarmFile.{printed_of, record_of}
use Rattle.gate_rules_theorems.specs.Printed.{answer_records, field_count}

plain-tenths : (n : ℕ) → Plain (tenths_of n)
plain-tenths n = plain-append (plain-whole (n / 10)) (plain-append (past-plain (bytes ".") refl) (plain-whole (n % 10)))

-- a line of a name and a value, before others
before : {name value behind : List ℕ} {rs : List (List (List ℕ))} → Plain name → Plain value → RecordsOf 2 rs behind
    → RecordsOf 2 ((name ∷ value ∷ []) ∷ rs) (name ++ (bytes "," ++ (value ++ (bytes "\r\n" ++ behind))))
before {name} {value} {behind} {rs} n v others =
    let one = line {n = 2} (RecordOf.more (FieldOf.plain n) (RecordOf.last (FieldOf.plain v))) refl refl in
    subst (RecordsOf 2 ((name ∷ value ∷ []) ∷ rs)) (simp append_assoc) (both one others)

outdoors-read : (o : Outdoors) → RecordsOf 2 (map record_of (printed_of o)) (outdoors_lines o)
unfolding outdoors_lines
outdoors-read o =
    before (past-plain _ refl) (plain-whole o.grazing_days)
    (before (past-plain _ refl) (plain-whole o.yard_days)
    (before (past-plain _ refl) (plain-tenths o.grazing_hours) no-records))

answer-read : (a : LogAnswer) → RecordsOf (field_count a) (answer_records a) (answer_lines a)
answer-read (Ok o) = outdoors-read o
answer-read (Err refused) = refusal-read (number refused.0) refused.1

-- of every log
pub log-prints-records : (s : List ℕ)
    → RecordsOf (field_count (read_log s)) (answer_records (read_log s)) (log_output s)
unfolding log_output
log-prints-records s = answer-read (read_log s)

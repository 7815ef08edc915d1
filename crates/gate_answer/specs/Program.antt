-- What the program prints for a gate's log. To be believed: `log_output`; the rest says how the code hands it over.
use Rattle.std.specs.Prelude.{ℕ, List, length, replicate}
use Rattle.std.proofs.lemmas.List.Edits.{sets}
use Rattle.lines_outdoors.specs.Rooms.{lines_room}
use Rattle.gate.specs.Logs.{read_log}
use Rattle.gate_answer.specs.declared.PutAnswer.{PutAnswer}
use Rattle.gate_answer.specs.Lines.{answer_lines}

unfoldable pub log_output : List ℕ → List ℕ
log_output s = answer_lines (read_log s)

-- ---- how the code hands it over; no reader has to believe it

-- longer than any answer: the three lines are the longest
abbrev pub answer_room : ℕ
answer_room = lines_room

-- the answer, and its bytes before zeros
unfoldable pub answer_of : List ℕ → PutAnswer
answer_of s =
    record {
      answer = read_log s;
      bytes = sets (replicate answer_room 0) 0 (log_output s);
      length = length (log_output s);
    }

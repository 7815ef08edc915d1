-- What a gate's log is answered with, byte by byte: its three lines, or 01's "`refused,NUMBER,RECORD` and CRLF". To be
-- believed.
use Rattle.std.specs.Prelude.{ℕ, List, Ok, Err}
use Rattle.lines_outdoors.specs.Lines.{outdoors_lines}
use Rattle.gate_days.specs.Refusals.{number}
use Rattle.refusal_line.specs.Lines.{refusal_line}
use Rattle.gate.specs.Logs.{LogAnswer}

abbrev pub answer_lines : LogAnswer → List ℕ
answer_lines (Ok o) = outdoors_lines o
answer_lines (Err refused) = refusal_line (number refused.0) refused.1

-- The answer and its line, from the calls that give them: the step of src/lib.rt. Assumes nothing.
use Prim.Native.Nat.{ℕ, ◌≤◌}
use mathlib.Core.Path.{◌∙◌}
use mathlib.Core.List.{List}
use native.Mathlib.Omega.{arith}
use lib.ListN.{replicate}
use Rattle.base.specs.Wrote.{Wrote}
use Rattle.refusal_line.specs.Rooms.{line_room}
use Rattle.limits.specs.declared.Source.{Source}
use Rattle.lines_above.specs.Lines.{answer_line}
use Rattle.line_calls.specs.Files.{FileAnswers}
use Rattle.line_answer.specs.Program.{Puts}
use Rattle.above_line.specs.Answers.{LineAnswer}

pub answer-put : (source : Source) (s : List ℕ) (line : ℕ) {a : LineAnswer} → FileAnswers source s line a
    → {new : List ℕ} {n : ℕ} → Wrote (replicate line_room 0) 0 (answer_line a) new n × (n ≤ line_room)
    → Puts source s line (record { answer = a; bytes = new; length = n })
answer-put source s line x w =
    record { answers = x; put = w.0.bytes; long = w.0.past ∙ omega arith }

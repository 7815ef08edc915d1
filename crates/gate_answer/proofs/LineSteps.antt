-- The lines of an answer, from the calls that put them: each law in the form that a place of src/lib.rt wants.
-- Assumes nothing.
use Rattle.std.specs.Prelude.{Ok, Err}
use Prim.Native.Nat.{ℕ}
use mathlib.Core.Path.{◌≡◌, ap, ◌∙◌}
use mathlib.Core.List.{List}
use native.Mathlib.Omega.{arith}
use lib.ListN.{length, replicate}
use lib.Seq.{sets}
use Rattle.base.specs.Wrote.{Wrote}
use Rattle.base.specs.declared.refusals.Refused.{Refused}
use Rattle.outdoors.specs.declared.Outdoors.{Outdoors}
use Rattle.gate_days.specs.declared.LogRefusal.{LogRefusal}
use Rattle.gate_days.specs.Refusals.{number}
use Rattle.gate.specs.Logs.{read_log, LogAnswer}
use Rattle.refusal_line.specs.Lines.{refusal_line}
use Rattle.lines_outdoors.specs.Lines.{outdoors_lines}
use Rattle.gate_answer.specs.Lines.{answer_lines}
use Rattle.gate_answer.specs.Program.{answer_room, log_output, answer_of}

module _ {a : LogAnswer} {old new : List ℕ} {r : ℕ} where
  pub lines-given : {o : Outdoors} → a ≡ Ok o → Wrote old 0 (outdoors_lines o) new r
      → Wrote old 0 (answer_lines a) new r
  lines-given e w = rw e w

  pub lines-refused : {why : Refused LogRefusal} {m : ℕ} → a ≡ Err why → m ≡ number why.0
      → Wrote old 0 (refusal_line m why.1) new r
      → Wrote old 0 (answer_lines a) new r
  lines-refused e q w = rw (e, ← q) w

pub answer-is : (s : List ℕ) {a : LogAnswer} → a ≡ read_log s → {new : List ℕ} {r : ℕ}
    → Wrote (replicate answer_room 0) 0 (answer_lines a) new r
    → record { answer = a; bytes = new; length = r } ≡ answer_of s
unfolding answer_of log_output
answer-is s {a} q {new} {r} w =
    let b : new ≡ sets (replicate answer_room 0) 0 (answer_lines (read_log s)) =
    w.bytes ∙ ap (λ (x : LogAnswer). sets (replicate answer_room 0) 0 (answer_lines x)) q in
    let l : r ≡ length (answer_lines (read_log s)) =
    w.past ∙ omega arith ∙ ap (λ (x : LogAnswer). length (answer_lines x)) q in
    rw (q, b, l)

pub ruleset line_steps = (lines-given, lines-refused, answer-is)

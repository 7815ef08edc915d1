-- What is printed for a step, from the calls that put it: each law in the form that a place of src/lib.rt wants.
-- Assumes nothing.
use Rattle.std.specs.Prelude.{Err}
use Prim.Native.Nat.{ℕ, ◌+◌, ◌≤◌}
use mathlib.Core.Path.{◌≡◌}
use mathlib.Core.List.{List}
use native.Mathlib.Omega.{arith}
use lib.ListN.{length}
use Rattle.base.specs.Wrote.{Wrote}
use Rattle.refusal_line.specs.Lines.{refusal_line}
use Rattle.refusal_line.specs.Rooms.{line_room}
use Rattle.outputs.specs.declared.Totals.{Totals}
use Rattle.listing.specs.Listing.{totals_listing}
use Rattle.books.specs.declared.StepRefusal.{StepRefusal}
use Rattle.books.specs.Rules.{number, Decided, Done}
use Rattle.lines_steps.specs.Lines.{step_lines}
use Rattle.lines_steps.specs.Rooms.{room_for}

module _ {d : Decided} (t : Totals) where
  pub done-room : {n : ℕ} → d ≡ Done → room_for d t ≤ n → 0 + length (totals_listing t) ≤ n
  done-room e h = omega (arith, rw e at h)

  pub refused-room : {n : ℕ} (refusal : StepRefusal) → d ≡ Err refusal → room_for d t ≤ n → line_room ≤ n
  refused-room refusal e h = rw e at h

  module _ {old new : List ℕ} {r : ℕ} where
    pub lines-done : d ≡ Done → Wrote old 0 (totals_listing t) new r → Wrote old 0 (step_lines d t) new r
    lines-done e w = rw e w

    pub lines-refused : (refusal : StepRefusal) (n : ℕ) → d ≡ Err refusal → n ≡ number refusal
        → Wrote old 0 (refusal_line n 0) new r → Wrote old 0 (step_lines d t) new r
    lines-refused refusal n e k w = rw (e, ← k) w

pub ruleset step_Lines = (done-room, refused-room, lines-done, lines-refused)

-- An accepted herd's line: its inputs are sound, and what was written is the line of its reason. Assumes nothing.
use Prim.Native.Nat.{ℕ}
use mathlib.Core.Path.{◌≡◌, ap, ◌∙◌}
use mathlib.Core.List.{List}
use Rattle.base.specs.Wrote.{Wrote}
use Rattle.base.proofs.Writes.{wrote_as}
use Rattle.farm.specs.declared.Herd.{Herd}
use Rattle.farm.specs.Labels.{text}
use Rattle.farm.specs.Answers.{Accepted}
use Rattle.checks.specs.Checks.{check_herd}
use Rattle.kinds.specs.declared.Inputs.{Inputs}
use Rattle.kinds.specs.Sound.{Sound}
use Rattle.typed_inputs.specs.Typed.{typed_of}
use Rattle.typed_inputs.proofs.Sound.{typed_sound}
use Rattle.reasons.specs.Reasons.{told_of, YardReason}
use Rattle.lines_reasons.specs.declared.Wording.{Wording}
use Rattle.lines_reasons.specs.Lines.{told_text, herd_why}

module _ (h : Herd) (t : Inputs) (et : t ≡ typed_of h) where
  pub sound : check_herd h ≡ Accepted → Sound t
  sound accepted = rw et (typed_sound h accepted)

  pub put : (v : Wording) (w : YardReason) → w ≡ told_of t → (old new : List ℕ) (at next : ℕ)
      → Wrote old at (told_text v (text h.label) w) new next → Wrote old at (herd_why v h) new next
  put v w ew old new at next p = wrote_as (ap (told_text v (text h.label)) (ew ∙ ap told_of et)) p

pub ruleset herd_steps = (sound, put)

-- An accepted herd's record: its inputs are sound, and what was written is its notes' record. Assumes nothing.
use Prim.Native.Nat.{ℕ}
use mathlib.Core.Path.{◌≡◌, ap, ◌∙◌}
use mathlib.Core.List.{List}
use Rattle.base.specs.Wrote.{Wrote}
use Rattle.base.proofs.Writes.{wrote_as}
use Rattle.farm.specs.declared.Herd.{Herd}
use Rattle.farm.specs.Labels.{text}
use Rattle.farm.specs.Answers.{Accepted}
use Rattle.checks.specs.Checks.{check_herd}
use Rattle.kinds.specs.declared.Inputs.{Inputs}
use Rattle.kinds.specs.Sound.{Sound}
use Rattle.notes.specs.declared.Notes.{Notes}
use Rattle.notes.specs.Notes.{notes_of}
use Rattle.typed_inputs.specs.Typed.{typed_of}
use Rattle.typed_inputs.proofs.Sound.{typed_sound}
use Rattle.lines_notes.specs.Records.{notes_record, herd_notes}

module _ (h : Herd) (t : Inputs) (et : t ≡ typed_of h) where
  pub sound : check_herd h ≡ Accepted → Sound t
  sound accepted = rw et (typed_sound h accepted)

  pub put : (n : Notes) → n ≡ notes_of t → (old new : List ℕ) (at next : ℕ)
      → Wrote old at (notes_record (text h.label) n) new next → Wrote old at (herd_notes h) new next
  put n en old new at next w = wrote_as (ap (notes_record (text h.label)) (en ∙ ap notes_of et)) w

pub ruleset herd_steps = (sound, put)

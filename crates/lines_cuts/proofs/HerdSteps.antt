-- An accepted herd's records: its inputs are sound, what was written is the records of its cuts, and the room is enough
-- for them. Assumes nothing.
use Prim.Native.Nat.{ℕ, ◌+◌, ◌≤◌}
use mathlib.Core.Path.{◌≡◌, ap, ◌∙◌}
use mathlib.Core.List.{List}
use native.Mathlib.Omega.{arith}
use lib.ListN.{length}
use Rattle.base.specs.Wrote.{Wrote}
use Rattle.base.proofs.Writes.{wrote_as}
use Rattle.farm.specs.declared.Herd.{Herd}
use Rattle.farm.specs.Answers.{Accepted}
use Rattle.checks.specs.Checks.{check_herd}
use Rattle.kinds.specs.declared.Inputs.{Inputs}
use Rattle.kinds.specs.Sound.{Sound}
use Rattle.typed_inputs.specs.Typed.{typed_of}
use Rattle.typed_inputs.proofs.Sound.{typed_sound}
use Rattle.cuts.specs.declared.Cuts.{Cuts}
use Rattle.cuts.specs.Herd.{cuts_of}
use Rattle.lines_cuts.specs.Rooms.{longest_cuts}
use Rattle.lines_cuts.specs.Lines.{cuts_listing, herd_cut_lines}
use Rattle.lines_cuts.proofs.Lengths.{cuts_fit}

module _ (h : Herd) (accepted : check_herd h ≡ Accepted) (t : Inputs) (et : t ≡ typed_of h) where
  pub sound : Sound t
  sound = rw et (typed_sound h accepted)

  module _ (c : Cuts) (ec : c ≡ cuts_of t) where
    are : cuts_listing h.label h.kind c ≡ herd_cut_lines h
    are = ap (cuts_listing h.label h.kind) (ec ∙ ap cuts_of et)

    pub room : (at long : ℕ) → at + longest_cuts ≤ long → at + length (cuts_listing h.label h.kind c) ≤ long
    room at long r = omega (arith, ap length are, cuts_fit h accepted)

    module _ (old new : List ℕ) (at next : ℕ) (w : Wrote old at (cuts_listing h.label h.kind c) new next) where
      pub put : Wrote old at (herd_cut_lines h) new next
      put = wrote_as are w

      pub within : next ≤ at + longest_cuts
      within = omega (arith, put.past, cuts_fit h accepted)

pub ruleset herd_steps = (sound, room, put, within)

-- An accepted herd's listing: its inputs are sound, it has its room, and what was written is its figures' lines.
-- Assumes nothing.
use Prim.Native.Nat.{ℕ, ◌+◌, ◌≤◌}
use mathlib.Core.Path.{◌≡◌, ap, ◌∙◌}
use mathlib.Core.List.{List}
use native.Mathlib.Omega.{arith}
use lib.ListN.{length}
use Rattle.base.specs.Wrote.{Wrote}
use Rattle.base.proofs.Writes.{wrote_as}
use Rattle.farm.specs.declared.Herd.{Herd}
use Rattle.farm.specs.Answers.{Accepted}
use Rattle.checks.specs.Checks.{check_herd}
use Rattle.kinds.specs.declared.Inputs.{Inputs}
use Rattle.kinds.specs.Sound.{Sound}
use Rattle.typed_inputs.specs.Typed.{typed_of}
use Rattle.typed_inputs.proofs.Sound.{typed_sound}
use Rattle.outputs.specs.declared.Figures.{Figures}
use Rattle.herd.specs.Herd.{figures_of}
use Rattle.listing.specs.Listing.{herd_listing}
use Rattle.listing_room.specs.Bounds.{herd_room}
use Rattle.listing_room.proofs.Rooms.{herd-fits}
use Rattle.lines_figures.specs.Lines.{listing_of}

module _ (h : Herd) (accepted : check_herd h ≡ Accepted) (t : Inputs) (et : t ≡ typed_of h) where
  pub sound : Sound t
  sound = rw et (typed_sound h accepted)

  module _ (f : Figures) (ef : f ≡ figures_of t) where
    same : herd_listing h.label h.kind f ≡ listing_of h
    same = ap (herd_listing h.label h.kind) (ef ∙ ap figures_of et)

    pub has_room : (at : ℕ) (old : List ℕ) → at + herd_room ≤ length old
        → at + length (herd_listing h.label h.kind f) ≤ length old
    has_room at old room = omega (arith, ap length same, herd-fits h accepted)

    module _ (old new : List ℕ) (at next : ℕ) (w : Wrote old at (herd_listing h.label h.kind f) new next) where
      pub put : Wrote old at (listing_of h) new next
      put = wrote_as same w

      pub put-within : next ≤ at + herd_room
      put-within = omega (arith, put.past, herd-fits h accepted)

pub ruleset herd_steps = (sound, has_room, put, put-within)

-- A view put in parts, if they fit: behind the herds, which have m bytes, stand n, and these were put into a scratch.
-- Assumes nothing.
use Rattle.std.specs.Prelude.{Ok}
use Prim.Native.Nat.{ℕ, ◌+◌, ◌*◌, ◌≤◌, ◌<◌}
use mathlib.Core.Path.{◌≡◌, ap, ◌∙◌}
use mathlib.Core.List.{List, ◌++◌}
use native.Mathlib.Omega.{arith}
use lib.ListN.{length, length-append}
use mir.Syntax.{w64}
use mir.Val.{Fits}
use Rattle.base.specs.Part.{part}
use Rattle.base.specs.Wrote.{Wrote}
use Rattle.base.proofs.Writes.{wrote_as, wrote-append, wrote-keeps-length, part-is}
use Rattle.base.specs.Refused.{refuse}
use Rattle.farm.specs.declared.Farm.{Farm}
use Rattle.farm.specs.declared.Refusal.TheVariants.{BufferTooShort}
use Rattle.farm.specs.Answers.{Accepted}
use Rattle.checks.specs.Checks.{check_farm, herds_of}
use Rattle.checks.proofs.Accepts.{farm-count}
use Rattle.written.specs.Answer.{Answered}
use Rattle.written.proofs.Answers.{refused, written}
use Rattle.line_parts.specs.Fields.{each}
use Rattle.views.specs.declared.View.{View}
use Rattle.views.specs.Views.{herd_text, viewed}
use Rattle.views.specs.Rooms.{herd_view_room, behind_room}
use Rattle.view_writing.specs.Behind.{behind}
use Rattle.view_writing.proofs.Behind.{in_parts}

module _ (v : View) (f : Farm) (accepted : check_farm f ≡ Accepted) (scratch after : List ℕ) (n : ℕ)
    (w : Wrote scratch 0 (behind v f) after n) (short : n ≤ behind_room) (m : ℕ)
    (is : m ≡ length (each (herd_text v) (herds_of f))) where
  abbrev herds : List ℕ
  herds = each (herd_text v) (herds_of f)

  pub whole-fits : m ≤ f.count * herd_view_room → Fits w64 (m + n)
  whole-fits h = omega (arith, h, short, farm-count f accepted)

  whole : length (herds ++ behind v f) ≡ m + n
  whole = omega (arith, is, w.past, length-append herds (behind v f))

  module _ (old : List ℕ) where
    pub too_short : length old < m + n → Answered (viewed v f) old old (refuse BufferTooShort 0)
    too_short h = refused (in_parts v f) (omega (arith, whole))

    module _ (fits : m + n ≤ length old) where
      pub herds-room : length herds ≤ length old
      herds-room = omega (arith, is)

      module _ (mid : List ℕ) (at : ℕ) (put : Wrote old 0 herds mid at) (long : length scratch ≡ behind_room)
          (p : List ℕ) (e : p ≡ part after 0 n) where
        is-behind : p ≡ behind v f
        is-behind = e ∙ part-is w (omega arith)

        pub rest-room : at + length p ≤ length mid
        rest-room =
            omega (arith, is, put.past, w.past, wrote-keeps-length put, ap length is-behind)

        pub in_parts-put : (new : List ℕ) (r : ℕ) → Wrote mid at p new r → Answered (viewed v f) old new (Ok r)
        in_parts-put new r u =
            let all = wrote-append put (wrote_as is-behind u) in
            written (in_parts v f) all (omega (arith, all.past, whole))

pub ruleset part_steps = (whole-fits, too_short, herds-room, rest-room, in_parts-put)

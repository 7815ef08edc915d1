-- The parts of a view put where they just fit: a herd by way of a scratch, herd after herd, and what stands behind
-- them. Assumes nothing.
use Prim.Native.Nat.{ℕ, ◌+◌, ◌≤◌, ◌<◌}
use mathlib.Core.Path.{◌≡◌, ap, ◌∙◌}
use mathlib.Core.Bool.{Bool, true, false}
use mathlib.Core.List.{List}
use native.Mathlib.Omega.{arith}
use lib.ListN.{length, get_or, drop, length-append}
use Rattle.base.specs.Part.{part}
use Rattle.base.specs.Wrote.{Wrote}
use Rattle.base.proofs.Writes.{wrote_as, wrote_nothing, part-is}
use Rattle.farm.specs.declared.Herd.{Herd}
use Rattle.farm.specs.declared.Farm.{Farm}
use Rattle.farm.proofs.Left.{left_at}
use Rattle.farm.specs.Answers.{Accepted}
use Rattle.checks.specs.Checks.{check_farm, herds_of}
use Rattle.outputs.specs.declared.Figures.{Figures}
use Rattle.outputs.specs.declared.Totals.{Totals}
use Rattle.outputs.specs.Grams.{GramsTo, figure_most, total_grams}
use Rattle.outputs.proofs.Adding.{totals-of-sum}
use Rattle.model.specs.Answers.{Added, herd_figures, farm_answer}
use Rattle.line_parts.specs.Fields.{each}
use Rattle.listing.specs.Listing.{totals_listing}
use Rattle.listing_room.proofs.Rooms.{totals-fit}
use Rattle.views.specs.declared.View.{View}
use Rattle.views.specs.Views.{herd_text, is_figures}
use Rattle.views.specs.Rooms.{herd_view_room, behind_room}
use Rattle.views.proofs.FarmSteps.{Putting, passes, starts, goes_on}
use Rattle.view_writing.specs.Behind.{behind}

-- ---- a herd: its text was put into a scratch, and p is that text there

module _ (text scratch after p : List ℕ) (n : ℕ) (w : Wrote scratch 0 text after n) (short : n ≤ herd_view_room)
    (long : length scratch ≡ herd_view_room) (is : p ≡ part after 0 n) where
  is-text : p ≡ text
  is-text = is ∙ part-is w (omega arith)

  module _ (at : ℕ) (old : List ℕ) where
    pub has_room : at + length text ≤ length old → at + length p ≤ length old
    has_room h = omega (arith, h, ap length is-text)

    module _ (new : List ℕ) (r : ℕ) (v : Wrote old at p new r) where
      pub put : Wrote old at text new r
      put = wrote_as is-text v

      pub put-within : r ≤ at + herd_view_room
      put-within = omega (arith, v.past, w.past, ap length is-text)

pub ruleset scratch_steps = (has_room, put, put-within)

-- ---- herd after herd

module _ (v : View) (f : Farm) (old : List ℕ) (room : length (each (herd_text v) (herds_of f)) ≤ length old) (i : ℕ)
    (now : List ℕ) (at : ℕ) (inv : Putting v f old i now at) (b : i < length (herds_of f)) where
  pub next-room : (d : Herd) → at + length (herd_text v (get_or (herds_of f) i d)) ≤ length now
  next-room d =
      let first = left_at (herds_of f) i d b in
      let rest = each (herd_text v) (drop (i + 1) (herds_of f)) in
      omega (
        arith,
        inv.written.adds-up,
        inv.written.same,
        ap (λ (l : List Herd). length (each (herd_text v) l)) first,
        length-append (herd_text v (get_or (herds_of f) i d)) rest,
      )

pub ruleset herd_steps = (passes, starts, next-room, goes_on)

-- ---- what stands behind them

module _ (v : View) (f : Farm) (accepted : check_farm f ≡ Accepted) (b : Bool) (q : b ≡ is_figures v) where
  module _ (sum : Figures) (added : Added f sum) where
    pub sum-small : GramsTo figure_most sum.grams
    sum-small = added.small

    module _ (t : Totals) (et : t.grams ≡ total_grams sum.grams) where
      totals : t ≡ (farm_answer f).totals
      unfolding farm_answer
      totals = totals-of-sum herd_figures (herds_of f) t (et ∙ ap total_grams added.is) ∙ rw accepted

      short : length (totals_listing t) ≤ behind_room
      short = rw totals (totals-fit f accepted)

      pub totals-room : (old : List ℕ) → behind_room ≤ length old → 0 + length (totals_listing t) ≤ length old
      totals-room old h = omega (arith, h, short)

      module _ (old new : List ℕ) (r : ℕ) (w : Wrote old 0 (totals_listing t) new r) where
        pub totals-put : b ≡ true → Wrote old 0 (behind v f) new r
        unfolding behind
        totals-put e = rw (← q, e, ← totals) w

        pub totals-within : r ≤ behind_room
        totals-within = omega (arith, short, w.past)

  pub nothing_put : b ≡ false → (old : List ℕ) → Wrote old 0 (behind v f) old 0
  unfolding behind
  nothing_put e old = rw (← q, e) (wrote_nothing old 0)

pub ruleset behind_steps = (sum-small, totals-room, totals-put, totals-within, nothing_put)

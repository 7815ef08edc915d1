-- A farm's listing put together herd by herd: what is still to be written, and what the totals are then. Assumes
-- nothing.
use Prim.Native.Nat.{ℕ, ◌+◌, ◌≤◌, ◌<◌}
use mathlib.Core.Path.{◌≡◌, sym, ap, subst, ◌∙◌}
use mathlib.Core.List.{List, [], ◌++◌, append_assoc, append-nil}
use native.Mathlib.Omega.{arith}
use lib.ListN.{length, get_or, drop, length-append, length-take}
use lib.Seq.{get_or-take}
use Rattle.base.specs.Wrote.{Wrote}
use Rattle.base.proofs.ToCome.{ToCome, begun, gone_on, ended}
use Rattle.farm.specs.Limits.{herds_most}
use Rattle.farm.specs.declared.Herd.{Herd}
use Rattle.farm.specs.declared.Farm.{Farm}
use Rattle.checks.specs.Checks.{check_farm, herds_of}
use Rattle.checks.proofs.Accepts.{farm-count}
use Rattle.farm.proofs.Left.{left_at, left_end}
use Rattle.farm.specs.Answers.{Accepted}
use Rattle.kinds.specs.declared.Inputs.{Inputs}
use Rattle.kinds.specs.Sound.{Sound}
use Rattle.outputs.specs.declared.Figures.{Figures}
use Rattle.outputs.specs.declared.Totals.{Totals}
use Rattle.outputs.specs.Grams.{GramsTo, figure_most, plus_grams, zeros, total_grams}
use Rattle.outputs.proofs.Adding.{totals-of-sum}
use Rattle.typed_inputs.specs.Typed.{typed_of}
use Rattle.herd.specs.Herd.{figures_of}
use Rattle.model.specs.Answers.{herd_figures, farm_answer}
use Rattle.model.proofs.AnswerSteps.{Adding, Turned, turned, next-sound, adding-starts, adding-ends}
use Rattle.line_parts.specs.Fields.{each}
use Rattle.listing.specs.Listing.{herd_listing, totals_listing}
use Rattle.listing_room.specs.Bounds.{farm_room}
use Rattle.lines_figures.specs.Lines.{listing_of, farm_listing}
use Rattle.lines_figures.proofs.Fits.{farm-fits}

-- what is left to write where i herds were listed
abbrev left : Farm → ℕ → List ℕ
left f i = each listing_of (drop i (herds_of f)) ++ totals_listing (farm_answer f).totals

pub few_herds : (f : Farm) → check_farm f ≡ Accepted → f.count ≤ herds_most
few_herds f accepted = farm-count f accepted

-- i herds were listed, and their figures added up
pub record Listing (f : Farm) (old : List ℕ) (i : ℕ) (sum : Figures) (now : List ℕ) (at : ℕ) : Type 0 where
  pub adding : Adding f i sum
  pub written : ToCome old 0 (farm_listing f) now (left f i) at

module _ (f : Farm) (accepted : check_farm f ≡ Accepted) (old : List ℕ) (room : farm_room f.count ≤ length old) where
  pub starts : (sum : Figures) → sum.grams ≡ zeros → Listing f old 0 sum old 0
  unfolding farm_listing
  starts sum e = record { adding = adding-starts f accepted sum e; written = begun }

  module _ (i : ℕ) (sum : Figures) (now : List ℕ) (at : ℕ) (inv : Listing f old i sum now at) where
    -- there is room for what comes next
    room_for : (a b : List ℕ) → left f i ≡ a ++ b → at + length a ≤ length now
    room_for a b e =
        let w = inv.written in
        omega (arith, ap length e, length-append a b, w.adds-up, w.same, farm-fits f accepted)

    module _ (long : length f.herds ≡ herds_most) (b : i < length (herds_of f)) (d : Herd) (t : Inputs)
        (et : t ≡ typed_of (get_or (herds_of f) i d)) where
      within : i < f.count
      within = omega (arith, b, length-take f.count f.herds)

      same : t ≡ typed_of (get_or f.herds i d)
      same = et ∙ ap typed_of (get_or-take f.count f.herds i d within)

      pub sound : Sound t
      sound = next-sound f accepted i sum inv.adding long within d t same

      module _ (g : Figures) (eg : g ≡ figures_of t) where
        turn : Turned f i sum g
        turn = turned f accepted i sum inv.adding long within d t same g eg

        pub asks : GramsTo figure_most sum.grams × GramsTo figure_most g.grams
        asks = turn.asks

        abbrev herd : Herd
        herd = get_or (herds_of f) i d

        first : left f i ≡ herd_listing herd.label herd.kind g ++ left f (i + 1)
        first =
            let totals = totals_listing (farm_answer f).totals in
            let list = herd_listing herd.label herd.kind in
            ap (λ (l : List Herd). each listing_of l ++ totals) (left_at (herds_of f) i d b)
            ∙ append_assoc (listing_of herd) (each listing_of (drop (i + 1) (herds_of f))) totals
            ∙ ap (λ (x : Figures). list x ++ left f (i + 1)) (sym (eg ∙ ap figures_of et))

        pub has_room : at + length (herd_listing herd.label herd.kind g) ≤ length now
        has_room = room_for (herd_listing herd.label herd.kind g) (left f (i + 1)) first

        pub goes_on : (new : List ℕ) (next : ℕ) (r : Figures)
            → Wrote now at (herd_listing herd.label herd.kind g) new next
            → r.grams ≡ plus_grams sum.grams g.grams → Listing f old (i + 1) r new next
        goes_on new next r w er =
            record {
              adding = turn.next r er;
              written = gone_on (subst (λ (l : List ℕ). ToCome old 0 (farm_listing f) now l at) first inv.written) w;
            }

    module _ (long : length f.herds ≡ herds_most) (b : length (herds_of f) ≤ i) where
      past : f.count ≤ i
      past = omega (arith, b, length-take f.count f.herds, inv.adding.room)

      pub sum-small : GramsTo figure_most sum.grams
      sum-small = (adding-ends f accepted i sum inv.adding past).small

      -- the totals of the sum are the farm's
      module _ (t : Totals) (et : t.grams ≡ total_grams sum.grams) where
        totals : t ≡ (farm_answer f).totals
        unfolding farm_answer
        totals =
            let added = adding-ends f accepted i sum inv.adding past in
            totals-of-sum herd_figures (herds_of f) t (et ∙ ap total_grams added.is) ∙ rw accepted

        rest : left f i ≡ totals_listing t ++ []
        rest =
            let all = totals_listing (farm_answer f).totals in
            ap (λ (l : List Herd). each listing_of l ++ all) (left_end (herds_of f) i b)
            ∙ ap totals_listing (sym totals)
            ∙ sym (append-nil (totals_listing t))

        pub has-totals-room : at + length (totals_listing t) ≤ length now
        has-totals-room = room_for (totals_listing t) [] rest

        pub ends : (new : List ℕ) (next : ℕ) → Wrote now at (totals_listing t) new next
            → Wrote old 0 (farm_listing f) new next × (next ≤ farm_room f.count)
        ends new next w =
            let left_over = subst (λ (l : List ℕ). ToCome old 0 (farm_listing f) now l at) rest inv.written in
            let all = ended (gone_on left_over w) in
            (all, omega (arith, all.past, farm-fits f accepted))

pub ruleset farm_steps = (starts, has_room, sound, asks, goes_on, sum-small, has-totals-room, ends)

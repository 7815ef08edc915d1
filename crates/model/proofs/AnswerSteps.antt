-- The steps of the answers, each in the form that a place of the code wants: an accepted record's figures, and the loop
-- that adds up the figures of an accepted farm. Assumes nothing.
use Rattle.std.specs.Prelude.{Err}
use Prim.Native.Nat.{ℕ, ◌+◌, ◌*◌, ◌≤◌, ◌<◌}
use mathlib.Core.Path.{◌≡◌, sym, ap, ◌∙◌}
use mathlib.Core.List.{List, [], map}
use native.Mathlib.Omega.{arith}
use lib.ListN.{length, get_or, drop}
use lib.IntN.{ℤ}
use Rattle.base.specs.declared.refusals.Refused.{Refused}
use Rattle.cut_division.specs.Total.{add_up}
use Rattle.farm.specs.Limits.{herds_most}
use Rattle.farm.specs.declared.Herd.{Herd}
use Rattle.farm.specs.declared.Farm.{Farm}
use Rattle.farm.specs.declared.Refusal.{Refusal}
use Rattle.checks.specs.Checks.{check_herd, check_farm, herds_of}
use Rattle.checks.proofs.Accepts.{farm-count}
use Rattle.farm.proofs.Left.{taken_at, taken-end}
use Rattle.farm.specs.Answers.{Accepted, Checked}
use Rattle.kinds.specs.declared.Inputs.{Inputs}
use Rattle.kinds.specs.Sound.{Sound}
use Rattle.notes.specs.declared.Notes.{Notes}
use Rattle.notes.specs.Notes.{notes_of, no_notes}
use Rattle.typed_inputs.specs.Typed.{typed_of}
use Rattle.typed_inputs.proofs.Sound.{typed_sound, herd-sound}
use Rattle.outputs.specs.declared.Figures.{Figures}
use Rattle.outputs.specs.declared.Totals.{Totals}
use Rattle.outputs.specs.Grams.{GramsTo, figure_most, plus_grams, zeros, no_figures, summed, total_grams, totals_of}
use Rattle.outputs.proofs.Adding.{plus_to, widen, zeros-to, totals-of-sum}
use Rattle.cuts.specs.declared.Cuts.{Cuts}
use Rattle.cuts.specs.Cuts.{no_cuts}
use Rattle.cuts.specs.Herd.{cuts_of}
use Rattle.kilograms.specs.declared.Kilograms.{Kilograms}
use Rattle.kilograms.specs.declared.TotalKilograms.{TotalKilograms}
use Rattle.kilograms.specs.Kilograms.{kilograms_of, total_kilograms_of, exact_most}
use Rattle.herd.specs.Herd.{figures_of}
use Rattle.herd.proofs.Bounds.{most, figures-to}
use Rattle.model.specs.Answers.{Added, herd_figures, herd_answer, farm_answer}
use Rattle.model.proofs.Exact.{figures-exact, totals-exact, no-totals-exact}
use Rattle.base.specs.Refused.{refuse}

-- figures of which the grams are none
no-grams : (f : Figures) → f.grams ≡ zeros → f ≡ no_figures
no-grams f e = ap of_grams e
  where
    of_grams : List ℤ → Figures
    of_grams g = record { grams = g }

-- ---- a herd

module _ (h : Herd) (k : Checked) (q : k ≡ check_herd h) where
  pub accepted-sound : (i : Inputs) → k ≡ Accepted → i ≡ typed_of h → Sound i
  accepted-sound i t e = rw e (typed_sound h (sym q ∙ t))

  pub accepted-exact : (i : Inputs) (f : Figures) → k ≡ Accepted → i ≡ typed_of h → f ≡ figures_of i
      → GramsTo exact_most f.grams
  accepted-exact i f t e ef = rw ef (figures-exact i (accepted-sound i t e))

  pub is-herd-answer : (i : Inputs) (f : Figures) (kg : Kilograms) (n : Notes) (c : Cuts) → k ≡ Accepted
      → i ≡ typed_of h → f ≡ figures_of i → kg ≡ kilograms_of f → n ≡ notes_of i → c ≡ cuts_of i
      → record { checked = Accepted; figures = f; kilograms = kg; notes = n; cuts = c } ≡ herd_answer h
  unfolding herd_answer
  is-herd-answer i f kg n c t e ef ek en ec = rw (← q, t, ek, ef, en, ec, e)

  pub is-herd-refusal : (why : Refused Refusal) (f : Figures) (kg : Kilograms) (n : Notes) (c : Cuts)
      → k ≡ Err why → f.grams ≡ zeros → kg ≡ kilograms_of f → n ≡ no_notes → c ≡ no_cuts
      → record { checked = Err why; figures = f; kilograms = kg; notes = n; cuts = c } ≡ herd_answer h
  unfolding herd_answer
  is-herd-refusal why f kg n c t ef ek en ec = rw (← q, t, ek, no-grams f ef, en, ec)

pub zeros-exact : (f : Figures) → f.grams ≡ zeros → GramsTo exact_most f.grams
zeros-exact f e = rw e (zeros-to exact_most)

pub ruleset herd_answers = (accepted-sound, accepted-exact, is-herd-answer, is-herd-refusal, zeros-exact)

-- ---- the figures of i herds were added up

pub record Adding (f : Farm) (i : ℕ) (sum : Figures) : Type 0 where
  pub room : f.count ≤ herds_most
  pub within : i ≤ f.count
  pub left : add_up plus_grams (λ h. (herd_figures h).grams) sum.grams (drop i (herds_of f))
      ≡ summed herd_figures (herds_of f)
  pub small : GramsTo (i * most) sum.grams

-- the figures g of the next herd may be added, and then those of i + 1 herds were
pub record Turned (f : Farm) (i : ℕ) (sum g : Figures) : Type 0 where
  pub asks : GramsTo figure_most sum.grams × GramsTo figure_most g.grams
  pub next : (r : Figures) → r.grams ≡ plus_grams sum.grams g.grams → Adding f (i + 1) r

module _ (f : Farm) (accepted : check_farm f ≡ Accepted) where
  pub adding-starts : (sum : Figures) → sum.grams ≡ zeros → Adding f 0 sum
  adding-starts sum e =
      record { room = farm-count f accepted; within = omega arith; left = rw e; small = rw e (zeros-to 0) }

  module _ (i : ℕ) (sum : Figures) (inv : Adding f i sum) where
    pub adding-ends : f.count ≤ i → Added f sum
    adding-ends b =
        record {
          is = rw (taken-end f.count f.herds i b) at inv.left;
          small = widen (i * most) figure_most inv.small (omega arith);
        }

    module _ (long : length f.herds ≡ herds_most) (b : i < f.count) (d : Herd) (t : Inputs)
        (et : t ≡ typed_of (get_or f.herds i d)) where
      pub next-sound : Sound t
      next-sound = rw et (herd-sound f accepted long i b d)

      pub turned : (g : Figures) → g ≡ figures_of t → Turned f i sum g
      turned g eg =
          let j : i < length f.herds = omega arith in
          let s : GramsTo most g.grams = rw eg (figures-to t next-sound) in
          record {
            asks = (widen (i * most) figure_most inv.small (omega arith), widen most figure_most s (omega arith));
            next = λ r er. record {
              room = inv.room;
              within = omega arith;
              left = rw (er, eg, et) (rw (taken_at f.count f.herds i d b j) at inv.left);
              small = rw er (widen (i * most + most) ((i + 1) * most)
                  (plus_to (i * most) most sum.grams g.grams inv.small s) (omega arith));
            };
          }

pub ruleset adding_steps = (adding-starts, adding-ends, next-sound)

-- ---- a farm

-- the totals of no herds
no-totals : (sum : Figures) (t : Totals) → sum.grams ≡ zeros → t.grams ≡ total_grams sum.grams → t ≡ totals_of []
no-totals sum t es et = totals-of-sum herd_figures [] t (et ∙ ap total_grams es)

pub zero-totals-exact : (sum : Figures) (t : Totals) → sum.grams ≡ zeros → t.grams ≡ total_grams sum.grams
    → GramsTo exact_most t.grams
zero-totals-exact sum t es et = rw (no-totals sum t es et) no-totals-exact

module _ (f : Farm) (k : Checked) (q : k ≡ check_farm f) where
  pub accepted-farm : k ≡ Accepted → check_farm f ≡ Accepted
  accepted-farm t = sym q ∙ t

  -- the totals of the sums are the farm's
  added-totals : (sum : Figures) (t : Totals) → Added f sum → t.grams ≡ total_grams sum.grams
      → t ≡ totals_of (map herd_figures (herds_of f))
  added-totals sum t a et = totals-of-sum herd_figures (herds_of f) t (et ∙ ap total_grams a.is)

  pub accepted-totals-exact : (sum : Figures) (t : Totals) → k ≡ Accepted → Added f sum
      → t.grams ≡ total_grams sum.grams → GramsTo exact_most t.grams
  accepted-totals-exact sum t e a et = rw (added-totals sum t a et) (totals-exact f (accepted-farm e))

  pub is-farm-answer : (sum : Figures) (t : Totals) (kg : TotalKilograms) → k ≡ Accepted → Added f sum
      → t.grams ≡ total_grams sum.grams → kg ≡ total_kilograms_of t
      → record { checked = Accepted; totals = t; kilograms = kg } ≡ farm_answer f
  unfolding farm_answer
  is-farm-answer sum t kg e a et ek = rw (← q, e, ek, added-totals sum t a et)

  pub is-farm-refusal : (why : Refused Refusal) (sum : Figures) (t : Totals) (kg : TotalKilograms)
      → k ≡ Err why → sum.grams ≡ zeros → t.grams ≡ total_grams sum.grams
      → kg ≡ total_kilograms_of t
      → record { checked = Err why; totals = t; kilograms = kg } ≡ farm_answer f
  unfolding farm_answer
  is-farm-refusal why sum t kg e es et ek = rw (← q, e, ek, no-totals sum t es et)

pub added-small : (f : Farm) (sum : Figures) → Added f sum → GramsTo figure_most sum.grams
added-small f sum a = a.small

pub zeros-small : (sum : Figures) → sum.grams ≡ zeros → GramsTo figure_most sum.grams
zeros-small sum e = rw e (zeros-to figure_most)

pub ruleset farm_answers =
    (accepted-farm, accepted-totals-exact, zero-totals-exact, is-farm-answer, is-farm-refusal, added-small, zeros-small)

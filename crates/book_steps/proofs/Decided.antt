-- What is known of a step that is done: no rule holds that is of it. And what a step gives, done or refused. Assumes
-- nothing.
use Rattle.std.specs.Prelude.{Err}
use Prim.Native.Nat.{ℕ, ◌<◌, min}
use mathlib.Core.Path.{◌≡◌, refl, sym, ap, ◌∙◌}
use mathlib.Core.Bool.{Bool, true, false, not, ◌&&◌}
use mathlib.Core.List.{List, [], ◌∷◌}
use native.Mathlib.Omega.{arith}
use lib.ListN.{length, length-take}
use borrow.Author.Tests.{leb-false, not-false}
use Rattle.base.specs.Pick.{pick}
use Rattle.base.specs.First.{first}
use Rattle.base.specs.Each.{Each, none, more}
use Rattle.base.proofs.Clash.{clash}
use Rattle.farm.specs.Limits.{herds_most}
use Rattle.farm.specs.declared.Herd.{Herd}
use Rattle.farm.specs.declared.Farm.{Farm}
use Rattle.farm.specs.Labels.{label_ok}
use Rattle.farm.specs.Herds.{no_farm}
use Rattle.farm.specs.Answers.{Accepted, Checked}
use Rattle.herd_tests.specs.Tests.{lacks, earlier_label}
use Rattle.fits.specs.Fits.{unfit}
use Rattle.checks.specs.Checks.{check_herd, check_farm, herds_of}
use Rattle.checks.proofs.Accepts.{farm-count}
use Rattle.outputs.specs.declared.Totals.{Totals}
use Rattle.books.specs.declared.Step.{Step}
use Rattle.books.specs.declared.Step.TheVariants.{Add, Replace, Remove}
use Rattle.books.specs.declared.StepRefusal.{StepRefusal}
use Rattle.books.specs.declared.Stepped.{Stepped}
use Rattle.books.specs.Rules.{beyond, Rule, rules, is_of, tests, decided_after, decided_of, Decided, Done}
use Rattle.books.specs.Answers.{StepsTo}
use Rattle.book_steps.specs.Changes.{Sound, Changed}

-- ---- no rule of the step holds

-- each of these rules is of other steps, or does not hold
abbrev Passed : Step → List Rule → Type 0
Passed step rs = Each (λ r. (is_of r.steps step && r.holds) ≡ false) rs

passed : (step : Step) (rs : List Rule) → first (tests step rs) Done ≡ Done → Passed step rs
passed step [] e = none
passed step (r ∷ rs) e = go (is_of r.steps step && r.holds) refl e (passed step rs)
  where
    go : (t : Bool) → (is_of r.steps step && r.holds) ≡ t
        → pick t (Err r.refusal) (first (tests step rs) Done) ≡ Done
        → (first (tests step rs) Done ≡ Done → Passed step rs) → Passed step (r ∷ rs)
    go true q e rest = clash cc
    go false q e rest = more q (rest e)

-- the inputs of a herd with a good label
good-herd : (h : Herd) → not (label_ok h.label) ≡ false → lacks h ≡ false → unfit h ≡ false
    → check_herd h ≡ Accepted
unfolding check_herd
good-herd h l m u = rw (check_herd, l, m, u)

module _ (f : Farm) (room : ℕ) (t : Totals) (h : Herd) where
  record Free (step : Step) : Type 0 where
    pub accepted : check_farm f ≡ Accepted
    pub none-holds : Passed step (rules room h (herds_of f) t)

  free : (step : Step) → decided_of f room t step h ≡ Done → Free step
  unfolding decided_of
  free step e = go (check_farm f) refl e
    where
      go : (k : Checked) → check_farm f ≡ k
          → decided_after k (first (tests step (rules room h (herds_of f) t)) Done) ≡ Done → Free step
      go Accepted q e = record { accepted = q; none-holds = passed step (rules room h (herds_of f) t) e }
      go (Err refused) q e = clash cc

  within : (step : Step) → Passed step (rules room h (herds_of f) t) → beyond t ≡ false
  within Add (more p ps) = p
  within Replace (more p ps) = p
  within Remove (more p ps) = p

  module _ (step : Step) (d : Decided) (e : d ≡ decided_of f room t step h) (q : d ≡ Done) where
    pub is-sound : Sound f t
    is-sound =
        let g = free step (sym e ∙ q) in
        record { accepted = g.accepted; within = within step g.none-holds }

    as_step : (s : Step) → step ≡ s → Free s
    as_step s p = free s (ap (λ (x : Step). decided_of f room t x h) (sym p) ∙ sym e ∙ q)

    module _ (p : step ≡ Add) where
      pub has_room : length f.herds ≡ herds_most → f.count < herds_most
      has_room long = go (as_step Add p)
        where
          go : Free Add → f.count < herds_most
          go g = holds g.none-holds
            where
              holds : Passed Add (rules room h (herds_of f) t) → f.count < herds_most
              holds (more a (more b (more c (more x (more y ps))))) =
                  omega (
                    arith,
                    leb-false (min room herds_most) (length (herds_of f)) y,
                    length-take f.count f.herds,
                    farm-count f g.accepted,
                  )

      pub fits-added : check_herd h ≡ Accepted
      fits-added = go (as_step Add p).none-holds
        where
          go : Passed Add (rules room h (herds_of f) t) → check_herd h ≡ Accepted
          go (more a (more b (more c (more x (more y (more m (more u none))))))) = good-herd h b m u

    module _ (p : step ≡ Replace) where
      pub present-replaced : earlier_label (herds_of f) h.label ≡ true
      present-replaced = go (as_step Replace p).none-holds
        where
          go : Passed Replace (rules room h (herds_of f) t) → earlier_label (herds_of f) h.label ≡ true
          go (more a (more b (more c ps))) = not-false (earlier_label (herds_of f) h.label) c

      pub fits_replaced : check_herd h ≡ Accepted
      fits_replaced = go (as_step Replace p).none-holds
        where
          go : Passed Replace (rules room h (herds_of f) t) → check_herd h ≡ Accepted
          go (more a (more b (more c (more x (more y (more m (more u none))))))) = good-herd h b m u

    pub present-removed : step ≡ Remove → earlier_label (herds_of f) h.label ≡ true
    present-removed p = go (as_step Remove p).none-holds
      where
        go : Passed Remove (rules room h (herds_of f) t) → earlier_label (herds_of f) h.label ≡ true
        go (more a (more b (more c ps))) = not-false (earlier_label (herds_of f) h.label) c

  -- ---- what the step gives

  module _ (step : Step) (d : Decided) (e : d ≡ decided_of f room t step h) where
    pub steps-done : (s : Step) (r : Stepped) → d ≡ Done → step ≡ s → Changed s f t h r → StepsTo f room t step h r
    steps-done s r q p c =
        record {
          decided = c.decided ∙ sym q ∙ e;
          herds = rw (sym e, q, p) c.herds;
          count = rw (sym e, q, p) c.count;
          totals = rw (sym e, q, p) c.totals;
        }

    pub steps-refused : (refusal : StepRefusal) (g : Farm) → d ≡ Err refusal → g ≡ no_farm
        → StepsTo f room t step h (record { decided = Err refusal; farm = g; totals = t })
    steps-refused refusal g q n =
        record {
          decided = sym q ∙ e;
          herds = rw (sym e, q, n) refl;
          count = rw (sym e, q, n) refl;
          totals = rw (sym e, q) refl;
        }

pub ruleset decided_steps = (
  is-sound,
  has_room,
  fits-added,
  present-replaced,
  fits_replaced,
  present-removed,
  steps-done,
  steps-refused,
)

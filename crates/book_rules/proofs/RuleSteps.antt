-- The steps of the rules, each in the form that a place of the code wants. Assumes nothing.
use Rattle.std.specs.Prelude.{Err}
use Prim.Native.Nat.{ℕ, ◌≤◌, ◌<◌, min}
use mathlib.Core.Path.{◌≡◌, refl, sym, ap, ◌∙◌}
use mathlib.Core.Bool.{Bool, true, false, not}
use native.Mathlib.Omega.{arith}
use lib.Dec.{leb}
use lib.ListN.{length, length-take}
use borrow.Author.Tests.{le-leb, lt-leb, leb-true, leb-false}
use Rattle.base.specs.First.{first}
use Rattle.base.specs.declared.refusals.Refused.{Refused}
use Rattle.farm.specs.Limits.{herds_most}
use Rattle.farm.specs.declared.Herd.{Herd}
use Rattle.farm.specs.declared.Farm.{Farm}
use Rattle.farm.specs.declared.Refusal.{Refusal}
use Rattle.farm.specs.declared.Refusal.TheVariants.{BadLabel}
use Rattle.farm.specs.Labels.{label_ok}
use Rattle.farm.specs.Answers.{Accepted, Checked}
use Rattle.herd_tests.specs.Tests.{earlier_label}
use Rattle.checks.specs.Checks.{check_farm, herds_of}
use Rattle.checks.proofs.Accepts.{farm-count}
use Rattle.outputs.specs.declared.Totals.{Totals}
use Rattle.books.specs.declared.Step.{Step}
use Rattle.books.specs.declared.Step.TheVariants.{Add, Replace, Remove}
use Rattle.books.specs.declared.StepRefusal.TheVariants.{Record, TotalTooLarge}
use Rattle.books.specs.Rules.{beyond, rules, tests, decided_of, Decided, Done}
use Rattle.book_rules.specs.Parts.{add_tests, replace_tests, remove_tests}

-- ---- whether there is room

module _ (count room : ℕ) where
  pub full-farm : herds_most ≤ count → true ≡ leb (min room herds_most) count
  full-farm h = let k : min room herds_most ≤ count = omega arith in sym (le-leb (min room herds_most) count k)

  pub full-array : count < herds_most → leb room count ≡ leb (min room herds_most) count
  full-array h = go (leb room count) refl
    where
      go : (b : Bool) → leb room count ≡ b → leb room count ≡ leb (min room herds_most) count
      go true e = e ∙ sym (le-leb (min room herds_most) count (omega (arith, leb-true room count e)))
      go false e = e ∙ sym (lt-leb (min room herds_most) count (omega (arith, leb-false room count e)))

pub ruleset room_steps = (full-farm, full-array)

-- ---- the rules of every step, and those of the step

module _ (f : Farm) (room : ℕ) (t : Totals) (step : Step) (h : Herd) where
  -- what the rules give of a step
  abbrev ruled : Step → Decided
  ruled s = first (tests s (rules room h (herds_of f) t)) Done

  module _ (b : Bool) (e : b ≡ beyond t) where
    beyond_so : (s : Step) → beyond t ≡ true → Err TotalTooLarge ≡ ruled s
    beyond_so Add q = rw q
    beyond_so Replace q = rw q
    beyond_so Remove q = rw q

    pub total-beyond : b ≡ true → Err TotalTooLarge ≡ ruled step
    total-beyond q = beyond_so step (sym e ∙ q)

    module _ (within : b ≡ false) (ok : Bool) (o : ok ≡ label_ok h.label) where
      label_so : (s : Step) → beyond t ≡ false → not (label_ok h.label) ≡ true → Err (Record BadLabel) ≡ ruled s
      label_so Add p q = rw (p, q)
      label_so Replace p q = rw (p, q)
      label_so Remove p q = rw (p, q)

      pub label-bad : not ok ≡ true → Err (Record BadLabel) ≡ ruled step
      label-bad q = label_so step (sym e ∙ within) (sym (ap not o) ∙ q)

      module _ (good : not ok ≡ false) (present : Bool) (p : present ≡ earlier_label (herds_of f) h.label)
          (r : Decided) where
        not_beyond : beyond t ≡ false
        not_beyond = sym e ∙ within

        label-good : not (label_ok h.label) ≡ false
        label-good = sym (ap not o) ∙ good

        pub decided-add : length f.herds ≡ herds_most → f.count ≤ herds_most → step ≡ Add
            → r ≡ first (add_tests present f.count room h) Done → r ≡ ruled step
        decided-add long most s q =
            let n : f.count ≡ length (herds_of f) = omega (arith, length-take f.count f.herds) in
            q ∙ ap (λ (k : ℕ). first (add_tests present k room h) Done) n ∙ (rw (s, p, not_beyond, label-good))

        pub decided_replace : step ≡ Replace → r ≡ first (replace_tests present h) Done → r ≡ ruled step
        decided_replace s q = q ∙ (rw (s, p, not_beyond, label-good))

        pub decided_remove : step ≡ Remove → r ≡ first (remove_tests present) Done → r ≡ ruled step
        decided_remove s q = q ∙ (rw (s, p, not_beyond, label-good))

  -- ---- the farm's record

  module _ (k : Checked) (e : k ≡ check_farm f) where
    pub record_room_lem : k ≡ Accepted → f.count ≤ herds_most
    record_room_lem q = farm-count f (sym e ∙ q)

    pub record_good : k ≡ Accepted → {r : Decided} → r ≡ ruled step → r ≡ decided_of f room t step h
    unfolding decided_of
    record_good q p = p ∙ (rw (decided_of, sym e, q))

    pub record_bad : {why : Refused Refusal} → k ≡ Err why → Err (Record why.0) ≡ decided_of f room t step h
    unfolding decided_of
    record_bad q = rw (decided_of, sym e, q)

pub ruleset rule_steps =
    (total-beyond, label-bad, decided-add, decided_replace, decided_remove, record_room_lem, record_good, record_bad)

-- The steps of the checks of a herd and of a farm, each in the form that a place of the code wants. Assumes nothing.
use Rattle.std.specs.Prelude.{Err}
use Prim.Native.Nat.{ℕ, ◌+◌, ◌≤◌, ◌<◌}
use mathlib.Core.Path.{◌≡◌, sym, ap, ◌∙◌}
use mathlib.Core.Bool.{Bool, true, false, not}
use mathlib.Core.List.{List, [], ◌∷◌, ◌++◌, map-append}
use native.Mathlib.Numerals.{add-one}
use native.Mathlib.Omega.{arith}
use lib.ListN.{length, get_or, take, drop}
use lib.Seq.{take-suc}
use borrow.Author.Tests.{lt-ltb, le-ltb}
use Rattle.base.specs.declared.refusals.Refused.{Refused}
use Rattle.base.specs.Pick.{pick}
use Rattle.base.specs.First.{first}
use Rattle.base.proofs.Picks.{flag_true, flag_false}
use Rattle.base.specs.Each.{Each, none, more}
use Rattle.base.specs.Refused.{refuse}
use Rattle.farm.specs.Limits.{herds_most}
use Rattle.farm.specs.declared.Label.{Label}
use Rattle.farm.specs.declared.Herd.{Herd}
use Rattle.farm.specs.declared.Farm.{Farm}
use Rattle.farm.specs.declared.Refusal.{Refusal}
use Rattle.farm.specs.declared.Refusal.TheVariants.{BadLabel, EarlierLabel, NoRoomForHerd}
use Rattle.farm.specs.Labels.{label_ok}
use Rattle.farm.proofs.Left.{taken_at, taken-end}
use Rattle.farm.specs.Answers.{Accepted, Checked}
use Rattle.herd_tests.specs.Tests.{labels_of, earlier_label}
use Rattle.checks.specs.Checks.{input_tests, herd_tests, herds_tests, herds_of, check_farm}
use Rattle.checks.proofs.Tests.{first-append, Refusing, refusing, quiet-passes, accepted-quiet, refused-first}

-- ---- a herd: the tests in their order

module _ (A : Type 0) (r x y : A) (t u : Bool) where
  pub flag_not-true : r ≡ x → u ≡ t → u ≡ false → r ≡ pick (not t) x y
  flag_not-true q e h = q ∙ (simp (sym e ∙ h))

  pub flag_not-false : r ≡ y → u ≡ t → u ≡ true → r ≡ pick (not t) x y
  flag_not-false q e h = q ∙ (simp (sym e ∙ h))

pub ruleset flags = (flag_true, flag_false, flag_not-true, flag_not-false)

-- ---- a farm: i herds were accepted

-- the tests of a herd's inputs refuse, and so do all of a herd
inputs-refusing : (h : Herd) → Each Refusing (input_tests h)
inputs-refusing h = more refusing (more refusing none)

pub herd-refusing : (earlier : List Label) (h : Herd) → Each Refusing (herd_tests earlier h)
herd-refusing earlier h = more refusing (more refusing (inputs-refusing h))

module _ (f : Farm) where
  pub no_room : herds_most < f.count → refuse NoRoomForHerd 0 ≡ check_farm f
  unfolding check_farm
  no_room h = simp (lt-ltb herds_most f.count h)

  pub farm-start : f.count ≤ herds_most → first (herds_tests [] (herds_of f)) Accepted ≡ check_farm f
  unfolding check_farm
  farm-start h = simp (le-ltb herds_most f.count h)

  module _ (i : ℕ)
      (inv : first (herds_tests (labels_of (take i f.herds)) (drop i (herds_of f))) Accepted ≡ check_farm f)
    where
      module _ (long : length f.herds ≡ herds_most) (room : f.count ≤ herds_most) (b : i < f.count) (d : Herd) where
        abbrev h : Herd
        h = get_or f.herds i d

        abbrev before : List Label
        before = labels_of (take i f.herds)

        -- what the tests of the herds behind this one give
        abbrev after : Checked
        after = first (herds_tests (labels_of (take (i + 1) f.herds)) (drop (i + 1) (herds_of f))) Accepted

        next-herd : first (herd_tests before h) after ≡ check_farm f
        next-herd =
            let j : i < length f.herds = omega arith in
            let e : labels_of (take (i + 1) f.herds) ≡ before ++ (h.label ∷ []) =
            rw (add-one, take-suc f.herds i d j, map-append) in
            ap (λ (ls : List Label).
            first (herd_tests before h) (first (herds_tests ls (drop (i + 1) (herds_of f))) Accepted)) e
            ∙ sym (first-append (herd_tests before h)
            (herds_tests (before ++ (h.label ∷ [])) (drop (i + 1) (herds_of f))) Accepted)
            ∙ sym (ap (λ (hs : List Herd). first (herds_tests before hs) Accepted)
            (taken_at f.count f.herds i d b j))
            ∙ inv

        module _ (ok : Bool) (o : ok ≡ label_ok h.label) where
          pub herd-labelled_badly : ok ≡ false → refuse BadLabel 0 ≡ check_farm f
          herd-labelled_badly t = sym (rw (sym o, t)) ∙ next-herd

          module _ (good : ok ≡ true) where
            pub herd-labelled-again : (r : Bool) → r ≡ earlier_label (take i f.herds) h.label → r ≡ true
                → refuse EarlierLabel 0 ≡ check_farm f
            unfolding earlier_label
            herd-labelled-again r e t = sym (rw (sym o, good, sym e ∙ t)) ∙ next-herd

            module _ (new : earlier_label (take i f.herds) h.label ≡ false) (r : Checked)
                (e : r ≡ first (input_tests h) Accepted) where
              own : first (input_tests h) after ≡ check_farm f
              unfolding earlier_label
              own = sym (rw (sym o, good, new)) ∙ next-herd

              pub herd-accepted : r ≡ Accepted → after ≡ check_farm f
              herd-accepted t = sym (quiet-passes (accepted-quiet (inputs-refusing h) (sym e ∙ t)) after) ∙ own

              pub herd-refused : {why : Refused Refusal} → r ≡ Err why → Err why ≡ check_farm f
              herd-refused t = sym (refused-first (inputs-refusing h) (sym e ∙ t) after) ∙ own

      pub herds-accepted : f.count ≤ i → Accepted ≡ check_farm f
      herds-accepted b = rw (taken-end f.count f.herds i b) at inv

pub ruleset farm_steps =
    (no_room, farm-start, herd-labelled_badly, herd-labelled-again, herd-accepted, herd-refused, herds-accepted)

-- The steps of what each step makes of a farm and its totals, each in the form that a place of the code wants. Assumes
-- nothing.
use Prim.Native.Nat.{ℕ, ◌≤◌, ◌<◌}
use mathlib.Core.Path.{◌≡◌, refl, sym, ap, ◌∙◌}
use mathlib.Core.Bool.{true}
use mathlib.Core.List.{List, [], ◌∷◌, ◌++◌}
use native.Mathlib.Omega.{arith}
use lib.ListN.{length, get_or, set, length-take}
use lib.Seq.{get_or-take}
use Rattle.base.proofs.Each.{each-get_or}
use Rattle.farm.specs.Limits.{herds_most}
use Rattle.farm.specs.declared.Herd.{Herd}
use Rattle.farm.specs.declared.Farm.{Farm}
use Rattle.farm.specs.Answers.{Accepted}
use Rattle.herd_tests.specs.Tests.{earlier_label}
use Rattle.checks.specs.Checks.{check_herd, herds_of}
use Rattle.checks.proofs.Accepts.{farm-count, farm-each}
use Rattle.outputs.specs.declared.Totals.{Totals}
use Rattle.books.specs.declared.Step.{Step}
use Rattle.books.specs.declared.Step.TheVariants.{Add, Replace, Remove}
use Rattle.books.specs.Steps.{named, herds_after, brings, takes}
use Rattle.books.specs.Rules.{Done}
use Rattle.book_herds.specs.Places.{place_of, without, HerdsAre}
use Rattle.book_totals.specs.Parts.{TotalsOf, moved_by}
use Rattle.book_totals.proofs.Parts.{is-moved}
use Rattle.book_steps.specs.Changes.{Sound, Changed}
use Rattle.book_steps.proofs.Places.{place_inside, named-at, replaced-at, removed-at}

module _ (f : Farm) (t : Totals) (h : Herd) (sound : Sound f t) where
  pub farm-room : f.count ≤ herds_most
  farm-room = farm-count f sound.accepted

  -- herds and totals that changed by the step
  changed : (step : Step) {hs : List Herd} {g : Farm} {gone come : List Herd} {a b r : Totals}
      → hs ≡ herds_after step h (herds_of f) → gone ≡ takes step h (herds_of f) → come ≡ brings step h
      → HerdsAre hs g → TotalsOf gone a → TotalsOf come b → r.grams ≡ moved_by t a b
      → Changed step f t h (record { decided = Done; farm = g; totals = r })
  changed step {r = r} p q s n x y m =
      record {
        decided = refl;
        herds = n.herds ∙ p;
        count = n.count ∙ ap length p;
        totals = rw (sym q, sym s) (is-moved t r x y m);
      }

  module _ (g : Farm) (a b r : Totals) (m : r.grams ≡ moved_by t a b) where
    pub added-changed : HerdsAre (herds_of f ++ (h ∷ [])) g → TotalsOf [] a → TotalsOf (h ∷ []) b
        → Changed Add f t h (record { decided = Done; farm = g; totals = r })
    added-changed n x y = changed Add refl refl refl n x y m

  -- the herd of the label, and its place
  module _ (long : length f.herds ≡ herds_most) (present : earlier_label (herds_of f) h.label ≡ true) (p : ℕ)
      (e : p ≡ place_of (herds_of f) h.label) where
    pub place-within : p < f.count
    place-within =
        omega (
          arith,
          place_inside (herds_of f) h.label present,
          length-take f.count f.herds,
        )

    pub place-room : p < herds_most
    place-room = omega (arith, place-within, farm-room)

    module _ (d : Herd) where
      at_place : get_or (herds_of f) p d ≡ get_or f.herds p d
      at_place = get_or-take f.count f.herds p d place-within

      pub old-accepted : check_herd (get_or f.herds p d) ≡ Accepted
      old-accepted =
          let l : p < length (herds_of f) = rw e (place_inside (herds_of f) h.label present) in
          rw (← at_place) (each-get_or (herds_of f) p d (farm-each f sound.accepted) l)

      is-named : get_or f.herds p d ∷ [] ≡ named h.label (herds_of f)
      is-named = rw (← at_place, e) (named-at (herds_of f) h.label present d)

      module _ (g : Farm) (a b r : Totals) (m : r.grams ≡ moved_by t a b) (x : TotalsOf (get_or f.herds p d ∷ []) a)
        where
          pub replaced-changed : HerdsAre (set (herds_of f) p h) g → TotalsOf (h ∷ []) b
              → Changed Replace f t h (record { decided = Done; farm = g; totals = r })
          replaced-changed n y =
              changed Replace (rw e (replaced-at (herds_of f) h present)) is-named refl n x y m

          pub removed-changed : HerdsAre (without p (herds_of f)) g → TotalsOf [] b
              → Changed Remove f t h (record { decided = Done; farm = g; totals = r })
          removed-changed n y =
              changed Remove (rw e (removed-at (herds_of f) h.label present)) is-named refl n x y m

pub ruleset change_steps =
    (farm-room, added-changed, place-within, place-room, old-accepted, replaced-changed, removed-changed)

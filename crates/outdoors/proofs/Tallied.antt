-- Days counted one after the other come to what the definition says of them all. Assumes nothing.
use Prim.Native.Nat.{ℕ, ◌+◌}
use mathlib.Core.Path.{◌≡◌, refl, ap, ◌∙◌}
use mathlib.Core.Bool.{Bool, true, false, not}
use mathlib.Core.List.{List, [], ◌∷◌, ◌++◌, append-nil}
use native.Mathlib.Omega.{arith}
use lib.Dec.{ltb}
use lib.ListN.{length, length-append}
use borrow.Author.Tests.{ltb-false}
use Rattle.base.specs.Pick.{pick}
use Rattle.calendar.specs.Calendar.{is_leap_day}
use Rattle.outdoors.specs.declared.Day.{Day}
use Rattle.outdoors.specs.declared.Tally.{Tally}
use Rattle.outdoors.specs.Outdoors.{those, days_that_count, grazed, on_yard, pasture_hours, outdoors_of}
use Rattle.outdoors.specs.Tallies.{one_if, tally, with_day, outdoors_by}

-- the tally of some days
abbrev pub tally_of : List Day → Tally
tally_of days = tally (length (grazed days)) (length (on_yard days)) (pasture_hours (grazed days))

pub tally-outdoors : (days : List Day) → outdoors_by (tally_of days) ≡ outdoors_of days
unfolding outdoors_of
tally-outdoors days = refl

-- ---- one day more

those-last : (f : Day → Bool) (ds : List Day) (d : Day)
    → those f (ds ++ (d ∷ [])) ≡ those f ds ++ pick (f d) (d ∷ []) []
those-last f [] d = go (f d)
  where
    go : (t : Bool) → pick t (d ∷ []) [] ≡ pick t (d ∷ []) []
    go t = refl
those-last f (x ∷ ds) d = go (f x) (those-last f ds d)
  where
    go : (t : Bool) → those f (ds ++ (d ∷ [])) ≡ those f ds ++ pick (f d) (d ∷ []) []
        → pick t (x ∷ those f (ds ++ (d ∷ []))) (those f (ds ++ (d ∷ [])))
        ≡ pick t (x ∷ those f ds) (those f ds) ++ pick (f d) (d ∷ []) []
    go true e = ap (λ (l : List Day). x ∷ l) e
    go false e = e

hours-last : (ds : List Day) (d : Day) → pasture_hours (ds ++ (d ∷ [])) ≡ pasture_hours ds + d.pasture
hours-last [] d = omega arith
hours-last (x ∷ ds) d = omega (arith, hours-last ds d)

length_last : (ds : List Day) (d : Day) → length (ds ++ (d ∷ [])) ≡ length ds + 1
length_last ds d = omega (arith, length-append ds (d ∷ []))

-- those of which f says so, one day more
module _ (f : Day → ℕ) (ds : List Day) (d : Day) where
  abbrev some : List Day → List Day
  some l = those (λ x. ltb 0 (f x)) l

  some-count : length (some (ds ++ (d ∷ []))) ≡ length (some ds) + one_if (f d)
  some-count = ap length (those-last (λ x. ltb 0 (f x)) ds d) ∙ go (ltb 0 (f d))
    where
      go : (t : Bool) → length (some ds ++ pick t (d ∷ []) []) ≡ length (some ds) + pick t 1 0
      go true = length_last (some ds) d
      go false = ap length (append-nil (some ds)) ∙ omega arith

some-hours : (ds : List Day) (d : Day)
    → pasture_hours (those (λ x. ltb 0 x.pasture) (ds ++ (d ∷ [])))
    ≡ pasture_hours (those (λ x. ltb 0 x.pasture) ds) + d.pasture
some-hours ds d = ap pasture_hours (those-last (λ x. ltb 0 x.pasture) ds d) ∙ go (ltb 0 d.pasture) refl
  where
    l : List Day
    l = those (λ x. ltb 0 x.pasture) ds

    go : (t : Bool) → ltb 0 d.pasture ≡ t → pasture_hours (l ++ pick t (d ∷ []) []) ≡ pasture_hours l + d.pasture
    go true e = hours-last l d
    go false e = ap pasture_hours (append-nil l) ∙ omega (arith, ltb-false 0 d.pasture e)

pub tally-last : (ds : List Day) (d : Day) → tally_of (ds ++ (d ∷ [])) ≡ with_day (tally_of ds) d
unfolding with_day
tally-last ds d = go (is_leap_day d.date) refl
  where
    is : (l : List Day) → days_that_count (ds ++ (d ∷ [])) ≡ l
        → tally_of (ds ++ (d ∷ []))
        ≡ tally (length (those (λ x. ltb 0 x.pasture) l)) (length (those (λ x. ltb 0 x.yard) l))
        (pasture_hours (those (λ x. ltb 0 x.pasture) l))
    is l e = rw e

    rest : days_that_count (ds ++ (d ∷ [])) ≡ days_that_count ds ++ pick (not (is_leap_day d.date)) (d ∷ []) []
    rest = those-last (λ x. not (is_leap_day x.date)) ds d

    go : (t : Bool) → is_leap_day d.date ≡ t → tally_of (ds ++ (d ∷ [])) ≡ with_day (tally_of ds) d
    go true e = is (days_that_count ds) (rest ∙ rw e (append-nil (days_that_count ds))) ∙ simp (with_day, e)
    go false e =
        is (days_that_count ds ++ (d ∷ [])) (rest ∙ rw e refl)
        ∙ rw (
          some-count (λ x. x.pasture) (days_that_count ds) d,
          some-count (λ x. x.yard) (days_that_count ds) d,
          some-hours (days_that_count ds) d,
        )
        (simp (with_day, e))

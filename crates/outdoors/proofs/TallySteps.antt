-- Days counted, from the calls that look at them: each law in the form that a place of src/tallies.rt wants. Assumes
-- nothing.
use Prim.Native.Nat.{ℕ, ◌+◌, ◌≤◌}
use mathlib.Core.Path.{◌≡◌, refl, sym, ◌∙◌}
use mathlib.Core.Bool.{Bool, true, false}
use native.Mathlib.Omega.{arith}
use lib.Dec.{ltb}
use Rattle.base.specs.Pick.{pick}
use Rattle.calendar.specs.Calendar.{is_leap_day}
use Rattle.outdoors.specs.declared.Day.{Day}
use Rattle.outdoors.specs.declared.Tally.{Tally}
use Rattle.outdoors.specs.Outdoors.{mean_of}
use Rattle.outdoors.specs.Tallies.{one_if, tally, with_day, outdoors_by}

pub one-small : (h : ℕ) {r : ℕ} → r ≡ one_if h → r ≤ 1
one-small h {r} q = go (ltb 0 h) q
  where
    go : (t : Bool) → r ≡ pick t 1 0 → r ≤ 1
    go true e = omega arith
    go false e = omega arith

module _ (t : Tally) (d : Day) {b : Bool} (q : b ≡ is_leap_day d.date) where
  pub not-counted : b ≡ true → t ≡ with_day t d
  unfolding with_day
  not-counted e = simp (with_day, sym q ∙ e)

  pub is-counted : b ≡ false → {g y : ℕ} → g ≡ one_if d.pasture → y ≡ one_if d.yard
      → tally (t.grazing_days + g) (t.yard_days + y) (t.pasture + d.pasture) ≡ with_day t d
  unfolding with_day
  is-counted e p r = rw (p, r) (simp (with_day, sym q ∙ e))

pub outdoors-is : (t : Tally) {m : ℕ} → m ≡ mean_of t.pasture t.grazing_days
    → record { grazing_days = t.grazing_days; yard_days = t.yard_days; grazing_hours = m } ≡ outdoors_by t
outdoors-is t q = rw q

pub ruleset tally_steps = (one-small, not-counted, is-counted, outdoors-is)

-- ---- a day more is one more at most, and its hours more

pub record Grown (t : Tally) (d : Day) (r : Tally) : Type 0 where
  pub grazing : r.grazing_days ≤ t.grazing_days + 1
  pub yard : r.yard_days ≤ t.yard_days + 1
  pub hours : r.pasture ≤ t.pasture + d.pasture

pub grown : (t : Tally) (d : Day) → Grown t d (with_day t d)
unfolding with_day
grown t d = go (is_leap_day d.date)
  where
    more : Tally
    more = tally (t.grazing_days + one_if d.pasture) (t.yard_days + one_if d.yard) (t.pasture + d.pasture)

    go : (b : Bool) → Grown t d (pick b t more)
    go true = record { grazing = omega arith; yard = omega arith; hours = omega arith }
    go false =
        record {
          grazing = omega (arith, one-small d.pasture refl);
          yard = omega (arith, one-small d.yard refl);
          hours = omega arith;
        }

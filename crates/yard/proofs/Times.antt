-- How much of the year a herd is on the yard: its days with both, its two shares, and that the time fits into the year.
-- Assumes nothing.
use mathlib.Core.Path.{◌≡◌, refl}
use mathlib.Core.Bool.{Bool, true, false}
use Prim.Native.Nat.{ℕ, ◌+◌, ◌-◌, ◌*◌, ◌≤◌}
use native.Mathlib.Nat.{mul-le-mul_right}
use native.Mathlib.Omega.{arith}
use borrow.Author.Tests.{ltb-true, ltb-false, lt-ltb}
use lib.Dec.{ltb}
use mir.Syntax.{w64}
use mir.Val.{Fits}
use Rattle.base.specs.Pick.{pick}
use Rattle.amounts.specs.Units.{tenths, year}
use Rattle.amounts.specs.Bounds.{UpTo}
use Rattle.kinds.specs.declared.ExerciseYard.{ExerciseYard}
use Rattle.kinds.specs.declared.ExerciseYard.TheVariants.{NotAvailable, NotSupplied, Partly, Exclusively}
use Rattle.kinds.specs.declared.Outdoor.{Outdoor}
use Rattle.kinds.specs.Sound.{SoundOutdoor}
use Rattle.yard.specs.Yard.{
  days_with_grazing_and_yard,
  share_available_roughage_is_partly_supplied_in_the_exercise_yard,
  share_excretion,
  share_lowered,
  share_excretion_with_grazing,
  yard_time,
}
use Rattle.yard.specs.Bounds.{DaysWithBoth}

-- ---- days with both

pub is-both : (o : Outdoor) → SoundOutdoor o → (r : ℕ) → r ≡ days_with_grazing_and_yard o → DaysWithBoth o r
unfolding days_with_grazing_and_yard
is-both o s r e = go (ltb year (o.grazing_days + o.yard_days)) refl e
  where
    go : (t : Bool) → ltb year (o.grazing_days + o.yard_days) ≡ t
        → r ≡ pick t (o.grazing_days + o.yard_days - year) 0 → DaysWithBoth o r
    go true h q =
        let k = ltb-true year (o.grazing_days + o.yard_days) h in
        record { is = e; in_grazing = omega arith; in_yard = omega arith; in_year = omega arith }
    go false h q =
        let k = ltb-false year (o.grazing_days + o.yard_days) h in
        record { is = e; in_grazing = omega arith; in_yard = omega arith; in_year = omega arith }

-- as the code forms it
pub both_left : (o : Outdoor) → SoundOutdoor o → (r : ℕ) → r ≡ o.grazing_days + o.yard_days - year → DaysWithBoth o r
unfolding days_with_grazing_and_yard
both_left o s r e = is-both o s r (go (ltb year (o.grazing_days + o.yard_days)) refl)
  where
    go : (t : Bool) → ltb year (o.grazing_days + o.yard_days) ≡ t
        → r ≡ pick t (o.grazing_days + o.yard_days - year) 0
    go true h = e
    go false h = omega (arith, ltb-false year (o.grazing_days + o.yard_days) h)

-- ---- shares: at most the whole

abbrev pub partly : ℕ
partly = share_available_roughage_is_partly_supplied_in_the_exercise_yard

pub share-le : (yard : ExerciseYard) → share_excretion yard ≤ tenths
share-le NotAvailable = omega arith
share-le NotSupplied = omega arith
share-le Partly = omega arith
share-le Exclusively = omega arith

pub shared-le : (o : Outdoor) → share_excretion_with_grazing o ≤ tenths
unfolding share_excretion_with_grazing
shared-le o = go (share_lowered o)
  where
    go : (t : Bool) → pick t partly (share_excretion o.exercise_yard) ≤ tenths
    go true = omega arith
    go false = share-le o.exercise_yard

-- the tests of the code
module _ (o : Outdoor) (both share : ℕ) (eb : DaysWithBoth o both) where
  pub none-lowered : both ≡ 0 → false ≡ share_lowered o
  unfolding share_lowered
  none-lowered e = rw (← eb.is, e)

  pub some-lowered : (both ≡ 0 → ⊥) → UpTo tenths (share_excretion o.exercise_yard) share
      → ltb partly share ≡ share_lowered o
  unfolding share_lowered
  some-lowered n es = rw (← eb.is, ← es.is, lt-ltb 0 both (omega arith))

module _ (o : Outdoor) (t : Bool) (et : t ≡ share_lowered o) where
  pub is-lowered : t ≡ true → UpTo tenths (share_excretion_with_grazing o) partly
  unfolding share_excretion_with_grazing
  is-lowered h = record { is = rw (← et, h); most = omega arith }

  pub is-chosen : t ≡ false → (share : ℕ) → UpTo tenths (share_excretion o.exercise_yard) share
      → UpTo tenths (share_excretion_with_grazing o) share
  unfolding share_excretion_with_grazing
  is-chosen h share es = record { is = rw (← et, h, es.is); most = es.most }

pub ruleset share_steps = (none-lowered, some-lowered, is-lowered, is-chosen)

-- ---- the time on the yard

module _ (o : Outdoor) (s : SoundOutdoor o) (both share shared : ℕ) (eb : DaysWithBoth o both) (hs : share ≤ tenths)
    (ht : shared ≤ tenths) where
  yard-le : share * (o.yard_days - both) + shared * both ≤ tenths * year
  yard-le = omega (arith, mul-le-mul_right (o.yard_days - both) hs, mul-le-mul_right both ht, eb.in_yard, s.yard)

  pub yard-sum-fits : Fits w64 (share * (o.yard_days - both) + shared * both)
  yard-sum-fits = omega (arith, yard-le)

  pub is-yard_time : share ≡ share_excretion o.exercise_yard → shared ≡ share_excretion_with_grazing o
      → UpTo (tenths * year) (yard_time o) (share * (o.yard_days - both) + shared * both)
  unfolding yard_time
  is-yard_time es et = record { is = rw (es, et, eb.is) refl; most = yard-le }

pub ruleset yard_time_steps = (yard-sum-fits, is-yard_time)

pub yard_time-le : (o : Outdoor) → SoundOutdoor o → yard_time o ≤ tenths * year
unfolding yard_time
yard_time-le o s =
    yard-le o s (days_with_grazing_and_yard o) (share_excretion o.exercise_yard)
    (share_excretion_with_grazing o)
    (is-both o s (days_with_grazing_and_yard o) refl) (share-le o.exercise_yard) (shared-le o)

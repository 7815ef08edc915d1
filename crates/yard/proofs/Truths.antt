-- 2.34 in plain words: no more TAN than N comes onto the yard; where no yard is available nothing comes onto it,
-- whatever the yard days; and 01's wording of the share on days with both comes to the same. Assumes nothing.
use mathlib.Core.Path.{◌≡◌, refl, ap}
use mathlib.Core.Bool.{Bool, true, false, ◌&&◌, and-false}
use Prim.Native.Nat.{ℕ, ◌+◌, ◌-◌, ◌*◌, ◌≤◌}
use native.Mathlib.Nat.{le_refl, mul-zero, zero-mul}
use native.Mathlib.Omega.{arith}
use borrow.Author.Tests.{ltb-false}
use lib.Dec.{ltb}
use Rattle.base.specs.Pick.{pick}
use Rattle.cut_division.proofs.Shares.{part_mono}
use Rattle.amounts.specs.Units.{tenths, year}
use Rattle.amounts.specs.Arithmetic.{cutting}
use Rattle.kinds.specs.declared.ExerciseYard.TheVariants.{NotAvailable}
use Rattle.kinds.specs.declared.Outdoor.{Outdoor}
use Rattle.yard.specs.Yard.{
  days_with_grazing_and_yard,
  share_available_roughage_is_partly_supplied_in_the_exercise_yard,
  share_excretion,
  share_lowered,
  share_excretion_with_grazing,
  share_on_both,
  yard_time,
  ef_nh3_nyard,
  on_yard,
  no_yard,
}

pub tan_into_yard_in_n : (o : Outdoor) (n tan : ℕ) → tan ≤ n
    → (on_yard cutting o n tan).tan_into_yard ≤ (on_yard cutting o n tan).n_into_yard
tan_into_yard_in_n o n tan h = part_mono (tenths * year) {m = yard_time o} {n = yard_time o} h (le_refl (yard_time o))

module _ (o : Outdoor) (none : o.exercise_yard ≡ NotAvailable) where
  pub not_available_shared : share_excretion_with_grazing o ≡ 0
  unfolding share_excretion_with_grazing share_lowered
  not_available_shared = rw (none, and-false) refl

  not_available_time : yard_time o ≡ 0
  unfolding yard_time
  not_available_time = rw (not_available_shared, none) (omega arith)

  pub not_available_no-yard : (n tan : ℕ) → on_yard cutting o n tan ≡ no_yard cutting
  not_available_no-yard n tan = rw (not_available_time, mul-zero n, mul-zero tan, zero-mul (ef_nh3_nyard o)) refl

-- ---- 01's wording asks for no days with both: where there are none its share is taken of no day

abbrev partly : ℕ
partly = share_available_roughage_is_partly_supplied_in_the_exercise_yard

module _ (o : Outdoor) where
  abbrev both : ℕ
  both = days_with_grazing_and_yard o

  abbrev share : ℕ
  share = share_excretion o.exercise_yard

  pub worded : (f : ℕ → ℕ) → f (share_excretion_with_grazing o) * both ≡ f (share_on_both o.exercise_yard) * both
  unfolding share_excretion_with_grazing share_lowered
  worded f = go (ltb 0 both) refl
    where
      go : (t : Bool) → ltb 0 both ≡ t
          → f (pick (t && ltb partly share) partly share) * both ≡ f (share_on_both o.exercise_yard) * both
      go true e = refl
      go false e =
          let none : both ≡ 0 = omega (arith, ltb-false 0 both e) in
          rw (none, mul-zero (f share), mul-zero (f (share_on_both o.exercise_yard))) refl

  pub yard_time-worded : yard_time o ≡ share * (o.yard_days - both) + share_on_both o.exercise_yard * both
  unfolding yard_time
  yard_time-worded = ap (λ (x : ℕ). share * (o.yard_days - both) + x) (worded (λ s. s))

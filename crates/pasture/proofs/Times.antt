-- How much of the year a herd is on pasture, and that it fits into the year, also together with its time on the yard.
-- Assumes nothing.
use mathlib.Core.Path.{◌≡◌, refl, ap}
use Prim.Native.Nat.{ℕ, ◌+◌, ◌-◌, ◌*◌, ◌≤◌}
use native.Mathlib.Nat.{mul-le-mul_right}
use native.Mathlib.Omega.{arith}
use mir.Syntax.{w64}
use mir.Val.{Fits}
use Rattle.cut_division.proofs.Products.{mul-to}
use Rattle.amounts.specs.Units.{tenths, year, day}
use Rattle.amounts.specs.Bounds.{UpTo}
use Rattle.kinds.specs.declared.Outdoor.{Outdoor}
use Rattle.kinds.specs.declared.Roughage.{Roughage}
use Rattle.kinds.specs.Sound.{SoundOutdoor, SoundRoughage}
use Rattle.yard.specs.Yard.{days_with_grazing_and_yard, share_excretion, share_excretion_with_grazing, yard_time}
use Rattle.yard.specs.Bounds.{DaysWithBoth}
use Rattle.yard.proofs.Times.{is-both, share-le, shared-le}
use Rattle.pasture.specs.Pasture.{outdoor_grazing_time, roughage_grazing_time}

-- ---- a herd with a yard

-- its days on pasture, in tenths of a day
abbrev pub grazed : Outdoor → ℕ → ℕ → ℕ
grazed o both shared = (o.grazing_days - both) * tenths + (tenths - shared) * both

module _ (o : Outdoor) (s : SoundOutdoor o) (both shared : ℕ) (eb : DaysWithBoth o both) (ht : shared ≤ tenths) where
  pasture-le : grazed o both shared ≤ tenths * year
  pasture-le =
      let k : (tenths - shared) * both ≤ tenths * both = mul-le-mul_right both (omega arith) in
      omega (arith, eb.in_grazing, s.days)

  time_le : o.grazing_hours * (grazed o both shared) ≤ day * (tenths * year)
  time_le = mul-to day (tenths * year) tt s.hours pasture-le

  -- a day on which the herd has both is counted once
  together-le : (share : ℕ) → share ≤ tenths
      → share * (o.yard_days - both) + shared * both + (grazed o both shared) ≤ tenths * year
  together-le share hs = go (o.yard_days - both) (tenths - shared) (omega (arith, eb.in_yard)) (omega (arith, ht))
    where
      go : (u w : ℕ) → u + both ≡ o.yard_days → w + shared ≡ tenths
          → share * u + shared * both + ((o.grazing_days - both) * tenths + w * both) ≤ tenths * year
      go u w eu ew = omega (arith, mul-le-mul_right u hs, ap (λ (x : ℕ). x * both) ew, eb.in_grazing, eb.in_year)

  -- the code's steps
  pub pasture-both-fits : Fits w64 ((tenths - shared) * both)
  pasture-both-fits = omega (arith, pasture-le)

  pub pasture-sum-fits : Fits w64 (grazed o both shared)
  pasture-sum-fits = omega (arith, pasture-le)

  pub time_fits : Fits w64 (o.grazing_hours * (grazed o both shared))
  time_fits = omega (arith, time_le)

  pub is_time : shared ≡ share_excretion_with_grazing o
      → UpTo (day * (tenths * year)) (outdoor_grazing_time o) (o.grazing_hours * (grazed o both shared))
  unfolding outdoor_grazing_time
  is_time et = record { is = rw (et, eb.is) refl; most = time_le }

pub ruleset outdoor_time_steps = (pasture-both-fits, pasture-sum-fits, time_fits, is_time)

module _ (o : Outdoor) (s : SoundOutdoor o) where
  here : DaysWithBoth o (days_with_grazing_and_yard o)
  here = is-both o s (days_with_grazing_and_yard o) refl

  pub outdoor-grazing_time_le : outdoor_grazing_time o ≤ day * (tenths * year)
  unfolding outdoor_grazing_time
  outdoor-grazing_time_le =
      time_le o s (days_with_grazing_and_yard o) (share_excretion_with_grazing o) here (shared-le o)

  pub times-le : yard_time o * day + outdoor_grazing_time o ≤ day * (tenths * year)
  unfolding yard_time outdoor_grazing_time
  times-le =
      omega (
        arith,
        together-le o s (days_with_grazing_and_yard o) (share_excretion_with_grazing o) here (shared-le o)
            (share_excretion o.exercise_yard) (share-le o.exercise_yard),
        mul-le-mul_right (grazed o (days_with_grazing_and_yard o) (share_excretion_with_grazing o)) s.hours,
      )

-- ---- roughage-consuming animals

pub roughage-grazing_time_le : (r : Roughage) → SoundRoughage r → roughage_grazing_time r ≤ day * year
unfolding roughage_grazing_time
roughage-grazing_time_le r s = mul-to day year tt s.hours s.days

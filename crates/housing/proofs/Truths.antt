-- 2.85 and 2.87 in plain words: c_grazing lies between 1 and k_grazing, and the emission factor stays below 1.46. Where
-- the free factor is not below zero it stays below 0.73, so that the ceiling of 1 is not reached. Assumes nothing.
use mathlib.Core.Path.{◌≡◌, refl, ap}
use mathlib.Core.Bool.{Bool, true, false}
use Prim.Native.Nat.{ℕ, ◌+◌, ◌-◌, ◌*◌, ◌/◌, ◌≤◌, ◌<◌}
use native.Mathlib.Nat.{mul-le-mul_left, div-le_of_le-mul, le_refl, le_trans, lt_of_le_of_lt}
use native.Mathlib.Omega.{arith}
use borrow.Author.Tests.{ltb-true, le-ltb}
use lib.Dec.{ltb, lit<}
use lib.IntN.{pos}
use Rattle.base.specs.Pick.{pick}
use Rattle.cut_division.proofs.Shares.{cut_greatest, part-le, part_mono}
use Rattle.tables.specs.Growth.{k_of, most_k}
use Rattle.tables.proofs.Growth.{k-least, k-most}
use Rattle.kinds.specs.declared.Roughage.{Roughage}
use Rattle.kinds.specs.Sound.{SoundRoughage}
use Rattle.kinds.proofs.Leaves.{free-le}
use Rattle.amounts.specs.Units.{percent, thousandths, billionths, year, day}
use Rattle.amounts.specs.Arithmetic.{cutting}
use Rattle.amounts.specs.Portion.{portion}
use Rattle.housing.specs.Housing.{er_housing, c_free_factor_housing, c_grazing, ef_nh3_nhousing, uncapped}
use Rattle.housing.proofs.InHousing.{weights}

-- ---- 2.87: a mean of 1 and k, of which k is the larger

module _ (a b m k : ℕ) (e : a + b ≡ m) (h : billionths ≤ k) where
  mean-least : 0 < m → billionths ≤ (a * billionths + b * k) / m
  mean-least above = cut_greatest m above (omega (arith, mul-le-mul_left b h))

  mean-most : (a * billionths + b * k) / m ≤ k
  mean-most = div-le_of_le-mul m (omega (arith, mul-le-mul_left a h, ap (λ (x : ℕ). x * k) e))

abbrev mean : ℕ → ℕ → ℕ
mean days hours = ((year - days) * day * billionths + days * (day - hours) * k_of hours) / (year * day - hours * days)

module _ (days hours : ℕ) (hd : days ≤ year) (hh : hours ≤ day) where
  made_up : (year - days) * day + days * (day - hours) ≡ year * day - hours * days
  made_up = weights days (day - hours) hours hd (omega arith)

  pub c_grazing-from_1_to-k : (billionths ≤ c_grazing cutting days hours)
      × (c_grazing cutting days hours ≤ k_of hours)
  c_grazing-from_1_to-k = go (ltb (days * hours) (year * day)) refl
    where
      go : (t : Bool) → ltb (days * hours) (year * day) ≡ t
          → (billionths ≤ pick t (mean days hours) billionths) × (pick t (mean days hours) billionths ≤ k_of hours)
      go true h =
          let below = ltb-true (days * hours) (year * day) h in
          (mean-least _ _ _ _ made_up (k-least hours) (omega arith), mean-most _ _ _ _ made_up (k-least hours))
      go false h = (le_refl billionths, k-least hours)

-- ---- 2.85

module _ (r : Roughage) (s : SoundRoughage r) where
  c_le : c_grazing cutting r.grazing_days r.grazing_hours ≤ most_k
  c_le =
      le_trans (c_grazing-from_1_to-k r.grazing_days r.grazing_hours s.days s.hours).1
      (k-most r.grazing_hours)

  rate-le : (c : ℕ) → c ≤ most_k
      → portion cutting c er_housing thousandths ≤ portion cutting most_k er_housing thousandths
  rate-le c h = part_mono thousandths {m = er_housing} {n = er_housing} h (le_refl er_housing)

  most-rate : portion cutting (c_grazing cutting r.grazing_days r.grazing_hours) er_housing thousandths
      < 730000000
  most-rate = lt_of_le_of_lt (rate-le _ c_le) (lit< tt)

  -- a free factor below zero makes twice of it at most
  pub factor-below_146 : uncapped cutting r < 1460000000
  factor-below_146 =
      let rate = portion cutting (c_grazing cutting r.grazing_days r.grazing_hours) er_housing thousandths
      in
      let left = c_free_factor_housing r.free_correction_factor in
      let most : portion cutting rate left percent ≤ rate + rate =
      div-le_of_le-mul percent (omega (arith, mul-le-mul_left rate (free-le r.free_correction_factor s.free)))
      in
      omega (arith, most, most-rate)

  -- and none below zero makes no more of it
  module _ (free : ℕ) (e : r.free_correction_factor ≡ pos free) where
    left_le : (rate : ℕ) → portion cutting rate (c_free_factor_housing r.free_correction_factor) percent ≤ rate
    left_le rate = rw e (part-le rate (percent - free) percent (omega arith))

    pub factor-below_073 : uncapped cutting r < 730000000
    factor-below_073 = lt_of_le_of_lt (left_le _) most-rate

    pub ceiling_not-reached : ef_nh3_nhousing cutting r ≡ uncapped cutting r
    ceiling_not-reached = rw (le-ltb billionths (uncapped cutting r) (omega (arith, factor-below_073))) refl

-- The housing of a roughage herd: c_grazing, er_housing, the free factor and the ceiling, each cut in billionths, and
-- the NH3 by that factor. Assumes nothing.
use mathlib.Core.Path.{◌≡◌, refl, ap}
use mathlib.Core.Bool.{Bool, true, false}
use Prim.Native.Nat.{ℕ, ◌+◌, ◌-◌, ◌*◌, ◌/◌, ◌≤◌, ◌<◌}
use native.Mathlib.Nat.{le_refl}
use native.Mathlib.Omega.{arith}
use borrow.Author.Tests.{ltb-true}
use lib.Dec.{ltb, lit<, lit≤}
use lib.IntN.{pos}
use Rattle.base.specs.Pick.{pick}
use Rattle.cut_division.specs.Frac.{Frac, whole, per, ◌at_most◌}
use Rattle.cut_division.proofs.Signed.{dn}
use Rattle.cut_division.proofs.Near.{
  Near,
  near-whole,
  near_weaken,
  near_add,
  near_mul,
  near-div-to,
  near-at-most,
  near-factor,
}
use Rattle.tables.specs.Growth.{most_k}
use Rattle.tables.proofs.Growth.{k-most}
use Rattle.amounts.specs.Units.{percent, thousandths, billionths, year, day}
use Rattle.amounts.specs.Arithmetic.{Arithmetic, cutting}
use Rattle.amounts.specs.Portion.{portion}
use Rattle.kinds.specs.declared.Roughage.{Roughage}
use Rattle.kinds.specs.Sound.{SoundRoughage, most_animals, most_grams}
use Rattle.kinds.proofs.Leaves.{free-le}
use Rattle.housing.specs.Housing.{er_housing, c_free_factor_housing, c_grazing, ef_nh3_nhousing, nh3_in_housing}
use Rattle.housing.proofs.InHousing.{factor-le}
use Rattle.nearness_theorems.specs.Exact.{exact}
use Rattle.nearness_theorems.proofs.Laws.{near-twice, near-rate, near-k}

-- what goes into the housing on other days, on grazing days, and on all, in tenths of an hour
abbrev other_days : ℕ → ℕ
other_days days = (year - days) * day

abbrev grazing_days : ℕ → ℕ → ℕ
grazing_days days hours = days * (day - hours)

abbrev all_days : ℕ → ℕ → ℕ
all_days days hours = year * day - hours * days

-- c_grazing below a whole year on pasture
module _ (A : Arithmetic) where
  open A use {Amount, whole, ◌⊕◌, ◌⊗◌, ◌over◌, k}

  infixl 7 ◌⊗◌
  infixl 6 ◌⊕◌
  infixl 5 ◌over◌
  abbrev mean : ℕ → ℕ → Amount
  mean days hours = whole (other_days days * billionths) ⊕ whole (grazing_days days hours) ⊗ k hours over all_days days
      hours

module _ (days hours : ℕ) (hd : days ≤ year) (hh : hours ≤ day) where
  days-add-up : other_days days + grazing_days days hours ≡ all_days days hours
  days-add-up = omega (arith, ap (λ (x : ℕ). days * x) (rest hh))
    where
      rest : hours ≤ day → day - hours + hours ≡ day
      rest h = omega arith

  near-mean : days * hours < year * day → Near 1500000 500000 (pos (mean cutting days hours)) (mean exact days hours)
  near-mean some =
      near-div-to 1500000 500000 (all_days days hours) (omega arith) (omega (arith, days-add-up))
      (omega (arith, days-add-up))
      (near_add (near-whole (other_days days * billionths))
      (near_mul (grazing_days days hours) most_k (most_k + 1) (le_refl (grazing_days days hours)) (k-most hours)
      (lit≤ tt)
      refl
      (near-whole (grazing_days days hours)) (near-k hours hh)))

  near_c_by : (b : Bool) → ltb (days * hours) (year * day) ≡ b
      → Near 1500000 500000 (pos (pick b (mean cutting days hours) billionths))
      (pick b (mean exact days hours) (whole billionths))
  near_c_by true e = near-mean (ltb-true (days * hours) (year * day) e)
  near_c_by false e = near_weaken (lit≤ tt) (lit≤ tt) (near-whole billionths)

  near_c : Near 1500000 500000 (pos (c_grazing cutting days hours)) (c_grazing exact days hours)
  near_c = near_c_by (ltb (days * hours) (year * day)) refl

-- ef_nh3_nhousing before its ceiling, from c_grazing
abbrev uncapped : (A : Arithmetic) → Roughage → A.Amount → A.Amount
uncapped A r c =
    portion A (portion A c er_housing thousandths) (c_free_factor_housing r.free_correction_factor) percent

-- the exact factor is not below zero
not-below-by : (r : Roughage) (b : Bool) (n d : ℕ)
    → dn (uncapped exact r (pick b (per n d) (whole billionths)) at_most billionths).num ≡ 0
not-below-by r true n d = refl
not-below-by r false n d = refl

not_below : (r : Roughage) → dn (ef_nh3_nhousing exact r).num ≡ 0
not_below r = not-below-by r (ltb (r.grazing_days * r.grazing_hours) (year * day)) _ _

near_ef : (r : Roughage) → SoundRoughage r
    → Near 3825000 275000 (pos (ef_nh3_nhousing cutting r)) (ef_nh3_nhousing exact r)
near_ef r s =
    near-at-most billionths
    (near-twice (c_free_factor_housing r.free_correction_factor) percent (lit< tt)
    (free-le r.free_correction_factor s.free)
    (near-rate er_housing thousandths (lit< tt)
    (near_c r.grazing_days r.grazing_hours s.days s.hours)))

-- the most TAN that any herd has: what the error of the factor is multiplied by
abbrev most_tan : ℕ
most_tan = most_animals * most_grams

pub near-nh3_in_housing : (r : Roughage) → SoundRoughage r → {lo hi tan : ℕ} {TAN : Frac} → tan ≤ most_tan
    → Near lo hi (pos tan) TAN
    → Near ((most_tan * 3825000 + lo * (billionths + 4)) / billionths + 1000001)
    ((most_tan * 275000 + hi * (billionths + 4)) / billionths + 1)
    (pos (nh3_in_housing cutting r tan)) (nh3_in_housing exact r TAN)
near-nh3_in_housing r s h near =
    near-factor most_tan billionths (lit< tt) h (factor-le r) (not_below r) near (near_ef r s)

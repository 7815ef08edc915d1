-- The housing of roughage-consuming animals: c_grazing is a mean of 1 and k, so it is at most k at 24 hours; the factor
-- is at most 1, and nothing is lost on the way. Assumes nothing.
use mathlib.Core.Path.{◌≡◌, refl, ap, ◌∙◌}
use mathlib.Core.Bool.{Bool, true, false}
use Prim.Native.Nat.{ℕ, ◌+◌, ◌-◌, ◌*◌, ◌/◌, ◌≤◌, ◌<◌}
use native.Mathlib.Nat.{mul-le-mul_left, div-le_of_le-mul}
use native.Mathlib.Omega.{arith}
use borrow.Author.Tests.{lt-ltb, le-ltb}
use Rattle.base.specs.Pick.{pick}
use lib.Dec.{ltb}
use mir.Syntax.{w64}
use mir.Val.{Fits}
use Rattle.cut_division.specs.declared.Quotient.{Quotient}
use Rattle.cut_division.specs.Cut.{quotient_of, undivided, least}
use Rattle.cut_division.proofs.Products.{mul-fits, mul-to}
use Rattle.cut_division.proofs.Shares.{part-le, least-most}
use Rattle.tables.specs.Growth.{k_of, most_k}
use Rattle.tables.proofs.Growth.{k-most}
use Rattle.amounts.specs.Units.{percent, thousandths, billionths, year, day}
use Rattle.amounts.specs.Arithmetic.{cutting}
use Rattle.amounts.specs.Dividing.{Divided, uncut, worth, dividing}
use Rattle.amounts.specs.Bounds.{WithinMostN, PortionOf, PortionToTwice, UpTo}
use Rattle.kinds.specs.declared.Roughage.{Roughage}
use Rattle.kinds.specs.Free.{c_free_factor}
use Rattle.housing.specs.declared.Factors.{Factors}
use Rattle.housing.specs.declared.Housing.{Housing}
use Rattle.housing.specs.Housing.{
  er_housing,
  c_grazing,
  uncapped,
  factors,
  no_factors,
  handed_factors,
  ef_nh3_nhousing,
  above_ceiling,
  nh3_in_housing,
  in_housing,
  through_door,
  handed_housing,
}
use Rattle.housing.specs.Bounds.{Grown}

-- ---- 2.87, c_grazing

-- the weights of the mean make up its divisor
pub weights : (days u hours : ℕ) → days ≤ year → u + hours ≡ day
    → (year - days) * day + days * u ≡ year * day - hours * days
weights days u hours h e = omega (arith, ap (λ (x : ℕ). days * x) e)

mean-le : (a b m k : ℕ) → a + b ≡ m → k ≤ most_k → (a * billionths + b * k) / m ≤ most_k
mean-le a b m k e h = div-le_of_le-mul m (omega (arith, mul-le-mul_left b h, ap (λ (x : ℕ). x * most_k) e))

k-le : (t k : ℕ) → k ≡ k_of t → k ≤ most_k
k-le t k e = rw e (k-most t)

module _ (days hours : ℕ) (hd : days ≤ year) (hh : hours ≤ day) where
  grazing-le : days * (day - hours) ≤ year * day
  grazing-le = mul-to year day tt hd (omega arith)

  pub grown-fits : (t k : ℕ) → k ≡ k_of t → Fits w64 (days * (day - hours) * k)
  grown-fits t k e = mul-fits (year * day) most_k tt grazing-le (k-le t k e)

  pub sum_fits : (t k : ℕ) → k ≡ k_of t → Fits w64 ((year - days) * day * billionths + days * (day - hours) * k)
  sum_fits t k e = omega (arith, mul-to (year * day) most_k {C = year * day * most_k} tt grazing-le (k-le t k e))

  pub is-mean : (k : ℕ) (q : Quotient) → k ≡ k_of hours
      → q ≡ quotient_of ((year - days) * day * billionths + days * (day - hours) * k) (year * day - hours * days)
      → days * hours < year * day → Grown days hours q
  is-mean k q ek e h =
      record {
        is = rw (lt-ltb (days * hours) (year * day) h, ← ek) e;
        most = rw e
            (mean-le ((year - days) * day) (days * (day - hours)) (year * day - hours * days) k
            (weights days (day - hours) hours hd (omega arith))
            (k-le hours k ek));
      }

pub is_one : (days hours : ℕ) (q : Quotient) → q ≡ undivided billionths → year * day ≤ days * hours → Grown days hours q
is_one days hours q e h = record { is = rw (e, le-ltb (days * hours) (year * day) h) refl; most = rw e (omega arith) }

pub ruleset growth_steps = (grown-fits, sum_fits, is-mean, is_one)

-- on whole numbers it is the same number
pub grown-whole : (days hours : ℕ) → worth (c_grazing dividing days hours) ≡ c_grazing cutting days hours
grown-whole days hours = go (ltb (days * hours) (year * day)) _ _
  where
    go : (t : Bool) (a b : Divided) → worth (pick t a b) ≡ pick t (worth a) (worth b)
    go true a b = refl
    go false a b = refl

-- ---- 2.85, ef_nh3_nhousing

uncapped-whole : (r : Roughage) → worth (uncapped dividing r) ≡ uncapped cutting r
uncapped-whole r = rw (grown-whole r.grazing_days r.grazing_hours) refl

module _ (r : Roughage) where
  pub are-factors : (left : ℕ) (c rate factor : Quotient) → Grown r.grazing_days r.grazing_hours c
      → PortionOf c.whole er_housing thousandths rate
      → UpTo (percent + percent) (c_free_factor r.free_correction_factor) left
      → PortionToTwice rate.whole left percent factor
      → ◌≡◌ {A = Factors}
      (record { c_grazing = c; times_er_housing = rate; times_c_free_factor_housing = factor })
      (handed_factors (factors dividing r))
  are-factors left c rate factor g p u q = rw (q.cut, u.is, p.cut, g.is) refl

  module _ (f : Factors) (e : f ≡ handed_factors (factors dividing r)) where
    pub is-above : ltb billionths f.times_c_free_factor_housing.whole ≡ above_ceiling r
    is-above = ap (ltb billionths) (ap (λ x. x.times_c_free_factor_housing.whole) e ∙ uncapped-whole r)

pub are-none : (q : Quotient) → q ≡ undivided 0
    → ◌≡◌ {A = Factors} (record { c_grazing = q; times_er_housing = q; times_c_free_factor_housing = q })
    (handed_factors (no_factors dividing))
are-none q e = rw e refl

pub ruleset factors_steps = (are-factors, is-above, are-none)

pub factor-le : (r : Roughage) → ef_nh3_nhousing cutting r ≤ billionths
factor-le r = least-most (uncapped cutting r) billionths

pub nh3_in_housing-le : (r : Roughage) (tan : ℕ) → nh3_in_housing cutting r tan ≤ tan
nh3_in_housing-le r tan = part-le tan (ef_nh3_nhousing cutting r) billionths (factor-le r)

-- ---- conservation: what goes into the housing is emitted there or leaves it

module _ (r : Roughage) (n tan : ℕ) where
  pub housing-keeps-n : WithinMostN n tan
      → let h = in_housing cutting r n tan in h.n_into_housing ≡ h.nh3_nhousing + h.n_outhousing
  housing-keeps-n m = omega (arith, nh3_in_housing-le r tan, m.tan_most)

  pub housing-keeps-tan :
      let h = in_housing cutting r n tan in h.tan_into_housing ≡ h.nh3_nhousing + h.tan_outhousing
  housing-keeps-tan = omega (arith, nh3_in_housing-le r tan)

  -- the code's step
  pub is-housing : (f : Factors) (nh3 : Quotient) → f ≡ handed_factors (factors dividing r)
      → PortionOf tan (least f.times_c_free_factor_housing.whole billionths) billionths nh3
      → ◌≡◌ {A = Housing} (record {
        n_into_housing = n;
        tan_into_housing = tan;
        factors = f;
        nh3_nhousing = nh3;
        n_outhousing = n - nh3.whole;
        tan_outhousing = tan - nh3.whole;
      })
      (handed_housing (factors dividing r) (in_housing dividing r (uncut n) (uncut tan)))
  is-housing f nh3 e p = rw (p.cut, e) refl

pub is_door : (n tan : ℕ) (f : Factors) (q : Quotient) → f ≡ handed_factors (no_factors dividing) → q ≡ undivided 0
    → ◌≡◌ {A = Housing} (record {
      n_into_housing = n;
      tan_into_housing = tan;
      factors = f;
      nh3_nhousing = q;
      n_outhousing = 0;
      tan_outhousing = 0;
    })
    (handed_housing (no_factors dividing) (through_door dividing (uncut n) (uncut tan)))
is_door n tan f q e en = rw (e, en) refl

pub ruleset housing_steps = (is-housing, is_door)

-- 2.51, the emission factor: each product on the way is the definition's, and each factor at most 1. Assumes nothing.
use mathlib.Core.Path.{◌≡◌, refl, ap, ◌∙◌}
use Prim.Native.Nat.{ℕ, ◌+◌, ◌-◌, ◌*◌, ◌≤◌}
use native.Mathlib.Nat.{le_trans, le_refl}
use native.Mathlib.Omega.{arith}
use Rattle.std.proofs.Common.{zero-le}
use mir.Syntax.{w64}
use mir.Val.{Fits}
use Rattle.cut_division.specs.declared.Quotient.{Quotient}
use Rattle.cut_division.specs.Cut.{◌cut_by◌, least, undivided}
use Rattle.cut_division.proofs.Products.{mul-fits, mul-to}
use Rattle.cut_division.proofs.Shares.{part-le, part_mono, parts-over-le, least-le, least-most}
use Rattle.amounts.specs.Units.{tenths, percent, billionths}
use Rattle.amounts.specs.Arithmetic.{cutting}
use Rattle.amounts.specs.Dividing.{dividing}
use Rattle.amounts.specs.Bounds.{PortionOf, PortionToTwice, UpTo}
use Rattle.kinds.specs.declared.HousingType.{HousingType}
use Rattle.kinds.specs.declared.HousingType.TheVariants as housed
use Rattle.kinds.specs.declared.AirScrubber.{AirScrubber}
use Rattle.kinds.specs.declared.AirScrubber.TheVariants as scrubber
use Rattle.kinds.specs.declared.HousingFloor.{HousingFloor}
use Rattle.kinds.specs.declared.HousingFloor.TheVariants as floor
use Rattle.kinds.specs.declared.Pigs.{Pigs}
use Rattle.kinds.specs.Free.{c_free_factor}
use Rattle.pig_house.specs.declared.PigFactors.{PigFactors}
use Rattle.pig_house.specs.declared.NxOxRates.{NxOxRates}
use Rattle.pig_house.specs.declared.HousingRow.{HousingRow}
use Rattle.pig_house.specs.Parameters.{
  thousandth,
  row_of,
  er_housing,
  share_liquid,
  share_indoor,
  rates_of,
  c_area,
  red_air_scrubber,
  red_housing_floor,
  red_housing_air,
}
use Rattle.pig_house.specs.PigHouse.{
  before_with_free,
  before_with_air,
  ef_housing_indoor_before_air_scrubber,
  with_scrubber,
  ef_housing_indoor,
  grazing_with_free,
  ef_housing_grazing,
  indoor_part,
  grazing_part,
  ef_nh3_nhousing,
  pig_factors,
  no_pig_factors,
  handed_pig_factors,
}
use Rattle.pig_house.specs.Bounds.{FactorOf}

-- ---- the rates, and the shares, at most 1

pub er-le : (t : HousingType) → er_housing t ≤ 486_000_000
er-le housed.SlurryConventional = omega arith
er-le housed.SlurryLabel = omega arith
er-le housed.SlurryLabelOpen = omega arith
er-le housed.DeepLitter = omega arith
er-le housed.Outdoor = omega arith

share-liquid-le : (t : HousingType) → share_liquid t ≤ 1
share-liquid-le housed.SlurryConventional = omega arith
share-liquid-le housed.SlurryLabel = omega arith
share-liquid-le housed.SlurryLabelOpen = omega arith
share-liquid-le housed.DeepLitter = omega arith
share-liquid-le housed.Outdoor = omega arith

pub share-indoor-le : (t : HousingType) → share_indoor t ≤ tenths
share-indoor-le housed.SlurryConventional = omega arith
share-indoor-le housed.SlurryLabel = omega arith
share-indoor-le housed.SlurryLabelOpen = omega arith
share-indoor-le housed.DeepLitter = omega arith
share-indoor-le housed.Outdoor = omega arith

pub red_air-scrubber-le : (s : AirScrubber) → red_air_scrubber s ≤ tenths
red_air-scrubber-le scrubber.Acid = omega arith
red_air-scrubber-le scrubber.Biotrickling = omega arith
red_air-scrubber-le scrubber.None = omega arith

-- the code's steps: the row of a type, and what it says
pub is_row : (t arm : HousingType) (rates : NxOxRates) (r : HousingRow) → t ≡ arm → rates ≡ rates_of arm
    → r ≡ record {
      er = (row_of arm).er;
      share_liquid = (row_of arm).share_liquid;
      share_indoor = (row_of arm).share_indoor;
      rates = rates;
    }
    → r ≡ row_of t
is_row t arm rates r et er e = rw (e, er, et) refl

module _ (t : HousingType) (r : HousingRow) (e : r ≡ row_of t) where
  pub er-fits : Fits w64 (r.er * thousandth)
  er-fits = record { fits = rw e (omega (arith, er-le t)) }

  pub is-er : UpTo billionths (er_housing t) (r.er * thousandth)
  is-er = rw e (record { is = refl; most = omega (arith, er-le t) })

  pub is-share-liquid : UpTo 1 (share_liquid t) r.share_liquid
  is-share-liquid = rw e (record { is = refl; most = share-liquid-le t })

  pub is-share-indoor : UpTo tenths (share_indoor t) r.share_indoor
  is-share-indoor = rw e (record { is = refl; most = share-indoor-le t })

-- no selection of floors is available
pub floor-takes-none : (f : HousingFloor) → UpTo 1 (red_housing_floor f) 0
floor-takes-none floor.None = record { is = refl; most = zero-le }

pub ruleset row_steps = (is_row, er-fits, is-er, is-share-liquid, is-share-indoor, floor-takes-none)

module _ (floor air : ℕ) where
  pub left-fits : Fits w64 ((1 - floor) * (tenths - air))
  left-fits = mul-fits 1 tenths tt (omega arith) (omega arith)

  pub left-within : (1 - floor) * (tenths - air) ≤ tenths
  left-within = mul-to 1 tenths tt (omega arith) (omega arith)

pub ruleset left_steps = (left-fits, left-within)

-- ---- each factor is at most 1, by the ceilings alone

-- a mean of two factors is at most what each is at most
pub mean-le : (m x y s : ℕ) → x ≤ m → y ≤ m → s ≤ tenths
    → x * s cut_by tenths + y * (tenths - s) cut_by tenths ≤ m
mean-le m x y s hx hy hs =
    let a : x * s cut_by tenths ≤ m * s cut_by tenths =
    part_mono tenths {m = s} {n = s} hx (le_refl s) in
    let b : y * (tenths - s) cut_by tenths ≤ m * (tenths - s) cut_by tenths =
    part_mono tenths {m = tenths - s} {n = tenths - s} hy (le_refl (tenths - s)) in
    omega (
      arith,
      a,
      b,
      parts-over-le m s (tenths - s) tenths tenths (omega arith) (omega arith) (omega arith),
    )

module _ (p : Pigs) where
  pub before-le : ef_housing_indoor_before_air_scrubber cutting p ≤ billionths
  before-le = least-most (before_with_air cutting p) billionths

  pub grazing-le : ef_housing_grazing cutting p ≤ billionths
  grazing-le = least-most (grazing_with_free cutting p) billionths

  pub scrubber-takes : ef_housing_indoor cutting p ≤ ef_housing_indoor_before_air_scrubber cutting p
  scrubber-takes =
      le_trans (least-le (with_scrubber cutting p) billionths)
      (part-le (ef_housing_indoor_before_air_scrubber cutting p) (tenths - red_air_scrubber p.air_scrubber)
      tenths (omega arith))

  pub ef_nh3_nhousing-le : ef_nh3_nhousing cutting p ≤ billionths
  ef_nh3_nhousing-le = least-most (indoor_part cutting p + grazing_part cutting p) billionths

  -- ---- the code's steps

  pub is-before-free : (rate left : ℕ) (q : Quotient) → UpTo billionths (er_housing p.housing_type) rate
      → UpTo (percent + percent) (c_free_factor p.free_correction_factor) left
      → PortionToTwice (rate * c_area) left percent q
      → FactorOf (before_with_free dividing p) q
  is-before-free rate left q u ul c =
      record { is = rw (c.cut, u.is, ul.is) refl; most = omega (arith, c.most, u.most) }

  pub is-before-air : (before q : Quotient) (floor air : ℕ) → FactorOf (before_with_free dividing p) before
      → UpTo 1 (red_housing_floor p.mitigation_housing_floor) floor
      → UpTo tenths (red_housing_air p.mitigation_housing_air) air
      → PortionOf before.whole ((1 - floor) * (tenths - air)) tenths q → FactorOf (before_with_air dividing p) q
  is-before-air before q floor air f uf ua c =
      record { is = rw (c.cut, f.is, uf.is, ua.is) refl; most = le_trans c.most f.most }

  pub is-before : (before : Quotient) (r : ℕ) → FactorOf (before_with_air dividing p) before
      → UpTo billionths (least before.whole billionths) r
      → UpTo billionths (ef_housing_indoor_before_air_scrubber cutting p) r
  is-before before r f u =
      record { is = u.is ∙ ap (λ (q : Quotient). least q.whole billionths) f.is; most = u.most }

  pub is_with_scrubber : (before red : ℕ) (q : Quotient)
      → UpTo billionths (ef_housing_indoor_before_air_scrubber cutting p) before
      → UpTo tenths (red_air_scrubber p.air_scrubber) red → PortionOf before (tenths - red) tenths q
      → FactorOf (with_scrubber dividing p) q
  is_with_scrubber before red q u ur c =
      record { is = rw (c.cut, u.is, ur.is) refl; most = omega (arith, c.most, u.most) }

  pub is-indoor : (indoor : Quotient) (r : ℕ) → FactorOf (with_scrubber dividing p) indoor
      → UpTo billionths (least indoor.whole billionths) r
      → UpTo billionths (ef_housing_indoor cutting p) r
  is-indoor indoor r f u =
      record { is = u.is ∙ ap (λ (q : Quotient). least q.whole billionths) f.is; most = u.most }

  pub is-grazing-free : (rate left : ℕ) (q : Quotient) → UpTo billionths (er_housing p.housing_type) rate
      → UpTo (percent + percent) (c_free_factor p.free_correction_factor) left
      → PortionToTwice rate (left * c_area) percent q
      → FactorOf (grazing_with_free dividing p) q
  is-grazing-free rate left q u ul c =
      record { is = rw (c.cut, u.is, ul.is) refl; most = omega (arith, c.most, u.most) }

  pub is-grazing : (grazing : Quotient) (r : ℕ) → FactorOf (grazing_with_free dividing p) grazing
      → UpTo billionths (least grazing.whole billionths) r
      → UpTo billionths (ef_housing_grazing cutting p) r
  is-grazing grazing r f u =
      record { is = u.is ∙ ap (λ (q : Quotient). least q.whole billionths) f.is; most = u.most }

  pub is-indoor-part : (indoor share : ℕ) (q : Quotient) → UpTo billionths (ef_housing_indoor cutting p) indoor
      → UpTo tenths (share_indoor p.housing_type) share → PortionOf indoor share tenths q
      → FactorOf (indoor_part dividing p) q
  is-indoor-part indoor share q u us c =
      record { is = rw (c.cut, u.is, us.is) refl; most = omega (arith, c.most, u.most) }

  pub is-grazing-part : (grazing share : ℕ) (q : Quotient) → UpTo billionths (ef_housing_grazing cutting p) grazing
      → UpTo tenths (share_indoor p.housing_type) share → PortionOf grazing (tenths - share) tenths q
      → FactorOf (grazing_part dividing p) q
  is-grazing-part grazing share q u us c =
      record { is = rw (c.cut, u.is, us.is) refl; most = omega (arith, c.most, u.most) }

  pub is_ef : (indoor grazing : Quotient) (r : ℕ) → FactorOf (indoor_part dividing p) indoor
      → FactorOf (grazing_part dividing p) grazing
      → UpTo billionths (least (indoor.whole + grazing.whole) billionths) r
      → UpTo billionths (ef_nh3_nhousing cutting p) r
  is_ef indoor grazing r f g u =
      let e : indoor.whole + grazing.whole ≡ indoor_part cutting p + grazing_part cutting p = rw (f.is, g.is) refl in
      record { is = u.is ∙ ap (λ (x : ℕ). least x billionths) e; most = u.most }

  pub are-factors : (a b c d e f : Quotient) → FactorOf (before_with_free dividing p) a
      → FactorOf (before_with_air dividing p) b → FactorOf (with_scrubber dividing p) c
      → FactorOf (grazing_with_free dividing p) d → FactorOf (indoor_part dividing p) e
      → FactorOf (grazing_part dividing p) f
      → ◌≡◌ {A = PigFactors}
      (record {
        before_times_c_free_factor_housing = a;
        before_times_red_housing_air = b;
        ef_housing_indoor = c;
        grazing_times_c_free_factor_housing = d;
        times_ef_housing_indoor = e;
        times_ef_housing_grazing = f;
      })
      (handed_pig_factors (pig_factors dividing p))
  are-factors a b c d e f ha hb hc hd he hf = rw (ha.is, hb.is, hc.is, hd.is, he.is, hf.is) refl

pub ruleset factor_steps = (
  left_steps,
  is-before-free,
  is-before-air,
  is-before,
  is_with_scrubber,
  is-indoor,
  is-grazing-free,
  is-grazing,
  is-indoor-part,
  is-grazing-part,
  is_ef,
  are-factors,
)

pub are-no-factors : (q : Quotient) → q ≡ undivided 0
    → ◌≡◌ {A = PigFactors}
    (record {
      before_times_c_free_factor_housing = q;
      before_times_red_housing_air = q;
      ef_housing_indoor = q;
      grazing_times_c_free_factor_housing = q;
      times_ef_housing_indoor = q;
      times_ef_housing_grazing = q;
    })
    (handed_pig_factors (no_pig_factors dividing))
are-no-factors q e = rw e refl

pub ruleset no_factors_steps = (are-no-factors)

-- 2.51: a pig house emits, together with what its scrubber keeps, no more TAN than goes in, and nothing is lost on the
-- way. The ceilings alone keep it so, whatever the rates are. Assumes nothing.
use mathlib.Core.Path.{◌≡◌, refl, ap, ◌∙◌}
use Prim.Native.Nat.{ℕ, ◌+◌, ◌-◌, ◌*◌, ◌≤◌}
use native.Mathlib.Nat.{
  mul-le-mul_left,
  mul-le-mul_right,
  div-mul-le_self,
  le_refl,
  le_trans,
  mul_comm,
  mul-zero,
  zero-mul,
}
use native.Mathlib.Omega.{arith}
use Rattle.std.proofs.Common.{zero-le}
use mir.Syntax.{w64}
use mir.Val.{Fits}
use Rattle.cut_division.specs.declared.Quotient.{Quotient}
use Rattle.cut_division.specs.Cut.{undivided, quotient_of}
use Rattle.cut_division.proofs.Products.{mul-fits, mul-to}
use Rattle.cut_division.proofs.Shares.{part-le, least-le}
use Rattle.amounts.specs.Units.{tenths, billionths}
use Rattle.amounts.specs.Arithmetic.{cutting}
use Rattle.amounts.specs.Dividing.{Divided, dividing, uncut, worth}
use Rattle.amounts.specs.Bounds.{PortionOf, UpTo}
use Rattle.kinds.specs.declared.HousingType.{HousingType}
use Rattle.kinds.specs.declared.HousingType.TheVariants as housed
use Rattle.kinds.specs.declared.AirScrubber.{AirScrubber}
use Rattle.kinds.specs.declared.AirScrubber.TheVariants as scrubber
use Rattle.kinds.specs.declared.Pigs.{Pigs}
use Rattle.housing.specs.declared.Factors.{Factors}
use Rattle.housing.specs.declared.Housing.{Housing}
use Rattle.housing.specs.Housing.{c_free_factor_housing, no_factors, handed_factors, handed_housing}
use Rattle.pig_house.specs.declared.Scrubbed.{Scrubbed}
use Rattle.pig_house.specs.declared.PigHouse.{PigHouse}
use Rattle.pig_house.specs.Parameters.{
  er_housing,
  share_indoor,
  share_liquid,
  red_air_scrubber,
  red_housing_floor,
  red_housing_air,
  hundredth,
}
use Rattle.pig_house.specs.PigHouse.{
  ef_housing_indoor_before_air_scrubber,
  before_with_free,
  with_scrubber,
  ef_housing_indoor,
  ef_housing_grazing,
  indoor_part,
  grazing_part,
  ef_nh3_nhousing,
  nh3_in_pig_house,
  scrubbed_tan,
  scrubbed_of,
  kept_by,
  kept_back,
  no_scrubbed,
  handed_scrubbed,
  tan_air_scrubber,
  all_or_nothing,
  in_fractions,
  pig_housing,
  pig_house,
  pig_factors,
  handed_pig_house,
}
use Rattle.pig_house.specs.Bounds.{Housed, indoors, outdoors, Enters}
use Rattle.pig_house.proofs.Factor.{
  share-indoor-le,
  red_air-scrubber-le,
  before-le,
  grazing-le,
  ef_nh3_nhousing-le,
}
use Rattle.pig_house.proofs.Fractions.{all_or_nothing-le}

-- ---- the ammonia and what a filter keeps, together

-- s and s' make up 1, r and r' too, in tenths; b and g are at most 1, in billionths. Of the amount x the house emits
-- s · b · r' + s' · g, and the filter keeps s · r · b, each cut on the way.
module _ (x s s' r r' b g indoor ip gp nh3 st sc : ℕ) (es : s + s' ≡ tenths) (er : r + r' ≡ tenths)
    (hb : b ≤ billionths) (hg : g ≤ billionths) (hi : indoor * tenths ≤ b * r') (hip : ip * tenths ≤ indoor * s)
    (hgp : gp * tenths ≤ g * s') (hnh3 : nh3 * billionths ≤ x * (ip + gp))
    (hst : st * billionths ≤ s * r * hundredth * x) (hsc : sc * billionths ≤ st * b) where
  -- ip in hundredths, of what the house emits indoors
  indoor-part : x * ip * 100 ≤ x * s * b * r'
  indoor-part = omega (arith, mul-le-mul_left x hip, mul-le-mul_left (x * s) hi)

  grazing-part : x * gp * tenths ≤ x * s' * g
  grazing-part = omega (arith, mul-le-mul_left x hgp)

  filter_part : sc * (100 * billionths) ≤ x * s * b * r
  filter_part = omega (arith, hsc, mul-le-mul_right b hst)

  both-shares : x * s * b * r + x * s * b * r' ≡ tenths * (x * s * b)
  both-shares = omega (arith, ap (λ (y : ℕ). x * s * b * y) er)

  pub emits_le : nh3 + sc ≤ x
  emits_le =
      omega (
        arith,
        hnh3,
        indoor-part,
        grazing-part,
        filter_part,
        both-shares,
        mul-le-mul_left (x * s) hb,
        mul-le-mul_left (x * s') hg,
        ap (λ (y : ℕ). x * y) es,
      )

-- on whole numbers it keeps the same
pub kept_whole : (s : AirScrubber) (d : Divided) → worth (kept_by dividing s d) ≡ kept_by cutting s (worth d)
kept_whole scrubber.Acid d = refl
kept_whole scrubber.Biotrickling d = refl
kept_whole scrubber.None d = refl

pub kept-by-le : (s : AirScrubber) (amount : ℕ) → kept_by cutting s amount ≤ amount
kept-by-le scrubber.Acid amount = zero-le
kept-by-le scrubber.Biotrickling amount = le_refl amount
kept-by-le scrubber.None amount = zero-le

pub outdoor-rate : er_housing housed.Outdoor ≡ 0
outdoor-rate = refl

module _ (p : Pigs) where
  -- what a filter keeps where one is built in
  abbrev pub filtered : ℕ → ℕ
  filtered tan = (scrubbed_of cutting p tan).times_ef_housing_indoor_before_air_scrubber

  indoors-le : (tan : ℕ) → nh3_in_pig_house cutting p tan + filtered tan ≤ tan
  indoors-le tan =
      let s = share_indoor p.housing_type in
      let r = red_air_scrubber p.air_scrubber in
      let b = ef_housing_indoor_before_air_scrubber cutting p in
      let g = ef_housing_grazing cutting p in
      let k = s * r * hundredth in
      emits_le tan s (tenths - s) r (tenths - r) b g
      (ef_housing_indoor cutting p) (indoor_part cutting p) (grazing_part cutting p)
      (nh3_in_pig_house cutting p tan) (scrubbed_tan cutting p tan) (filtered tan)
      (omega (arith, share-indoor-le p.housing_type))
      (omega (arith, red_air-scrubber-le p.air_scrubber))
      (before-le p) (grazing-le p)
      (le_trans (mul-le-mul_right tenths (least-le (with_scrubber cutting p) billionths))
      (div-mul-le_self (b * (tenths - r)) tenths))
      (div-mul-le_self (ef_housing_indoor cutting p * s) tenths)
      (div-mul-le_self (g * (tenths - s)) tenths)
      (le_trans (div-mul-le_self (tan * ef_nh3_nhousing cutting p) billionths)
      (mul-le-mul_left tan (least-le (indoor_part cutting p + grazing_part cutting p) billionths)))
      (div-mul-le_self (k * tan) billionths)
      (div-mul-le_self (scrubbed_tan cutting p tan * b) billionths)

  -- outdoors what is left of the rate is 0 too
  abbrev left_by : ℕ
  left_by =
      (1 - red_housing_floor p.mitigation_housing_floor)
      * (tenths - red_housing_air p.mitigation_housing_air)

  module _ (e : p.housing_type ≡ housed.Outdoor) where
    pub outdoor-before : ef_housing_indoor_before_air_scrubber cutting p ≡ 0
    outdoor-before =
        let free : before_with_free cutting p ≡ 0 =
        rw (e, outdoor-rate) (rw (zero-mul (c_free_factor_housing p.free_correction_factor)) refl) in
        rw free (rw (zero-mul left_by) refl)

    pub outdoor-filtered : (tan : ℕ) → filtered tan ≡ 0
    outdoor-filtered tan = rw (outdoor-before, mul-zero (scrubbed_tan cutting p tan)) refl

  pub pig_house_emits_le : (excreted tan : ℕ) → Housed p.housing_type excreted tan
      → nh3_in_pig_house cutting p tan + tan_air_scrubber cutting p excreted ≤ tan
  pig_house_emits_le excreted tan h = go p.housing_type refl h
    where
      kept-le : (x : ℕ) → tan_air_scrubber cutting p x ≤ filtered x
      kept-le x = kept-by-le p.air_scrubber (filtered x)

      go : {excreted tan : ℕ} (t : HousingType) → p.housing_type ≡ t → Housed t excreted tan
          → nh3_in_pig_house cutting p tan + tan_air_scrubber cutting p excreted ≤ tan
      go t e (indoors {tan = tan}) = omega (arith, indoors-le tan, kept-le tan)
      go housed.Outdoor e (outdoors {tan = tan}) =
          omega (
            arith,
            part-le 0 (ef_nh3_nhousing cutting p) billionths (ef_nh3_nhousing-le p),
            kept-le tan,
            outdoor-filtered e tan,
          )

-- ---- conservation: what goes into the house is emitted there, kept back, or leaves it as liquid or solid

fractions_make_up : (share x : ℕ) → all_or_nothing cutting share x + (x - all_or_nothing cutting share x) ≡ x
fractions_make_up share x = omega (arith, all_or_nothing-le share x)

module _ (p : Pigs) (excreted n tan : ℕ) (h : Enters p excreted n tan) where
  pub pig_house-keeps-n :
      let house = pig_housing cutting p excreted n tan in
      let q = pig_house cutting p excreted n tan in
      house.n_into_housing
      ≡ house.nh3_nhousing + q.tan_air_scrubber + q.n_outhousing_liquid + q.n_outhousing_solid
  pig_house-keeps-n =
      omega (
        arith,
        pig_house_emits_le p excreted tan h.housed,
        h.modest.tan_most,
        fractions_make_up (share_liquid p.housing_type) (pig_housing cutting p excreted n tan).n_outhousing,
      )

  pub pig_house-keeps-tan :
      let house = pig_housing cutting p excreted n tan in
      let q = pig_house cutting p excreted n tan in
      house.tan_into_housing
      ≡ house.nh3_nhousing + q.tan_air_scrubber + q.tan_outhousing_liquid + q.tan_outhousing_solid
  pig_house-keeps-tan =
      omega (
        arith,
        pig_house_emits_le p excreted tan h.housed,
        fractions_make_up (share_liquid p.housing_type)
            (pig_housing cutting p excreted n tan).tan_outhousing,
      )

-- ---- the code's steps

module _ (p : Pigs) (tan : ℕ) where
  pub are-scrubbed : (share red before : ℕ) (q f : Quotient) → UpTo tenths (share_indoor p.housing_type) share
      → UpTo tenths (red_air_scrubber p.air_scrubber) red
      → UpTo billionths (ef_housing_indoor_before_air_scrubber cutting p) before
      → PortionOf tan (share * red * hundredth) billionths q → PortionOf q.whole before billionths f
      → ◌≡◌ {A = Scrubbed}
      (record { times_tan_excretion = q; times_ef_housing_indoor_before_air_scrubber = f })
      (handed_scrubbed (scrubbed_of dividing p (uncut tan)))
  are-scrubbed share red before q f us ur ub cq cf =
      let swap : q ≡ quotient_of (share * red * hundredth * tan) billionths =
      cq.cut ∙ ap (λ (x : ℕ). quotient_of x billionths) (mul_comm tan (share * red * hundredth)) in
      rw (cf.cut, swap, us.is, ur.is, ub.is) refl

  pub share-fits : (share red : ℕ) → share ≤ tenths → red ≤ tenths → Fits w64 (share * red)
  share-fits share red hs hr = mul-fits tenths tenths tt hs hr

  share-le : (share red : ℕ) → share ≤ tenths → red ≤ tenths → share * red ≤ 100
  share-le share red hs hr = mul-to tenths tenths tt hs hr

  pub share-of_billion_fits : (share red : ℕ) → share ≤ tenths → red ≤ tenths → Fits w64 (share * red * hundredth)
  share-of_billion_fits share red hs hr = mul-fits 100 hundredth tt (share-le share red hs hr) (le_refl hundredth)

  pub share-within : (share red : ℕ) → share ≤ tenths → red ≤ tenths → share * red * hundredth ≤ billionths
  share-within share red hs hr = mul-to 100 hundredth tt (share-le share red hs hr) (le_refl hundredth)

  -- by the scrubber
  module _ (s : AirScrubber) (e : s ≡ p.air_scrubber) (r : Scrubbed) where
    pub acid_keeps-none : r ≡ handed_scrubbed (no_scrubbed dividing) → s ≡ scrubber.Acid
        → r ≡ handed_scrubbed (kept_back dividing p (uncut tan))
    acid_keeps-none q es = q ∙ rw (← e, es) refl

    pub filter_keeps : r ≡ handed_scrubbed (scrubbed_of dividing p (uncut tan)) → s ≡ scrubber.Biotrickling
        → r ≡ handed_scrubbed (kept_back dividing p (uncut tan))
    filter_keeps q es = q ∙ rw (← e, es) refl

    pub none-keeps-none : r ≡ handed_scrubbed (no_scrubbed dividing) → s ≡ scrubber.None
        → r ≡ handed_scrubbed (kept_back dividing p (uncut tan))
    none-keeps-none q es = q ∙ rw (← e, es) refl

  is-kept : (r : Scrubbed) → r ≡ handed_scrubbed (kept_back dividing p (uncut tan))
      → r.times_ef_housing_indoor_before_air_scrubber.whole ≡ tan_air_scrubber cutting p tan
  is-kept r e =
      ap (λ (x : Scrubbed). x.times_ef_housing_indoor_before_air_scrubber.whole) e
      ∙ kept_whole p.air_scrubber
      (scrubbed_of dividing p (uncut tan)).times_ef_housing_indoor_before_air_scrubber

pub ruleset scrubbed_steps = (are-scrubbed, share-fits, share-of_billion_fits, share-within)

pub ruleset scrubber_steps = (acid_keeps-none, filter_keeps, none-keeps-none)

pub are-none-scrubbed : (q : Quotient) → q ≡ undivided 0
    → ◌≡◌ {A = Scrubbed} (record { times_tan_excretion = q; times_ef_housing_indoor_before_air_scrubber = q })
    (handed_scrubbed (no_scrubbed dividing))
are-none-scrubbed q e = rw e refl

pub ruleset none_scrubbed = (are-none-scrubbed)

module _ (p : Pigs) (excreted n tan : ℕ) (nh3 : Quotient) (s : Scrubbed)
    (cn : PortionOf tan (ef_nh3_nhousing cutting p) billionths nh3)
    (es : s ≡ handed_scrubbed (kept_back dividing p (uncut excreted))) where
  abbrev kept : ℕ
  kept = s.times_ef_housing_indoor_before_air_scrubber.whole

  module _ (h : Enters p excreted n tan) where
    taken-le : nh3.whole + kept ≤ tan
    taken-le = rw (cn.is, is-kept p excreted s es) (pig_house_emits_le p excreted tan h.housed)

    pub nh3_in_n : nh3.whole ≤ n
    nh3_in_n = omega (arith, taken-le, h.modest.tan_most)

    pub scrubbed_in_n : kept ≤ n - nh3.whole
    scrubbed_in_n = omega (arith, taken-le, h.modest.tan_most)

    pub scrubbed_in_tan : kept ≤ tan - nh3.whole
    scrubbed_in_tan = omega (arith, taken-le)

  pub is-pig-housing : (f : Factors) → f ≡ handed_factors (no_factors dividing)
      → ◌≡◌ {A = Housing} (record {
        n_into_housing = n;
        tan_into_housing = tan;
        factors = f;
        nh3_nhousing = nh3;
        n_outhousing = n - nh3.whole - kept;
        tan_outhousing = tan - nh3.whole - kept;
      })
      (handed_housing (no_factors dividing) (pig_housing dividing p (uncut excreted) (uncut n) (uncut tan)))
  is-pig-housing f ef = rw (ef, cn.cut, es) refl

  pub is-pig_house : (q : PigHouse)
      → q ≡ handed_pig_house (pig_factors dividing p) s
      (in_fractions dividing p.housing_type (uncut kept) (uncut (n - nh3.whole - kept))
      (uncut (tan - nh3.whole - kept)))
      → q ≡ handed_pig_house (pig_factors dividing p) (handed_scrubbed (kept_back dividing p (uncut excreted)))
      (pig_house dividing p (uncut excreted) (uncut n) (uncut tan))
  is-pig_house q eq = eq ∙ rw (cn.cut, es) refl

pub ruleset house_steps = (nh3_in_n, scrubbed_in_n, scrubbed_in_tan, is-pig-housing, is-pig_house)

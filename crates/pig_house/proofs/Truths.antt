-- 2.51 to 2.62 in plain words: the emission factor is at most twice the rate, so that no ceiling is reached, and at
-- most the rate where the free factor is not below zero; outdoors a pig house is empty, only a biotrickling filter
-- keeps something, deep litter gives no slurry and the slurry types no solid manure. Assumes nothing.
use mathlib.Core.Path.{◌≡◌, refl, ap, ◌∙◌}
use Prim.Native.Nat.{ℕ, ◌+◌, ◌-◌, ◌*◌, ◌≤◌}
use native.Mathlib.Nat.{zero-mul, mul-zero, le_trans, mul-le-mul_left, div-le_of_le-mul}
use native.Mathlib.Omega.{arith}
use borrow.Author.Tests.{le-ltb}
use lib.IntN.{pos}
use Rattle.cut_division.specs.Cut.{least}
use Rattle.cut_division.proofs.Shares.{part-le, least-le}
use Rattle.amounts.specs.Units.{tenths, percent, billionths}
use Rattle.amounts.specs.Arithmetic.{cutting}
use Rattle.kinds.specs.declared.HousingType.{HousingType}
use Rattle.kinds.specs.declared.HousingType.TheVariants as housed
use Rattle.kinds.specs.declared.AirScrubber.TheVariants as scrubber
use Rattle.kinds.specs.declared.Pigs.{Pigs}
use Rattle.kinds.specs.Sound.{SoundPigs}
use Rattle.kinds.proofs.Leaves.{free-le}
use Rattle.housing.specs.Housing.{through_door, c_free_factor_housing}
use Rattle.pig_house.specs.Parameters.{
  er_housing,
  share_liquid,
  share_indoor,
  red_air_scrubber,
  red_housing_floor,
  red_housing_air,
}
use Rattle.pig_house.specs.PigHouse.{
  before_with_free,
  before_with_air,
  ef_housing_indoor_before_air_scrubber,
  with_scrubber,
  ef_housing_indoor,
  grazing_with_free,
  ef_housing_grazing,
  indoor_part,
  grazing_part,
  ef_nh3_nhousing,
  nh3_in_pig_house,
  tan_air_scrubber,
  through_pig_house,
  in_fractions,
  pig_housing,
  pig_house,
  no_pig_house,
}
use Rattle.pig_house.specs.NxOx.{nx_ox, no_nx_ox}
use Rattle.pig_house.proofs.Factor.{er-le, share-indoor-le, left-within, mean-le, scrubber-takes}
use Rattle.pig_house.proofs.Through.{filtered, outdoor-filtered, kept-by-le}

-- ---- the factor: floor, air and scrubber only take from what the free factor leaves of the rate

module _ (p : Pigs) where
  abbrev rate : ℕ
  rate = er_housing p.housing_type

  abbrev free : ℕ
  free = c_free_factor_housing p.free_correction_factor

  module _ (m : ℕ) (hb : before_with_free cutting p ≤ m) (hg : grazing_with_free cutting p ≤ m) where
    air-within : before_with_air cutting p ≤ m
    air-within =
        let left = (1 - red_housing_floor p.mitigation_housing_floor)
        * (tenths - red_housing_air p.mitigation_housing_air) in
        le_trans
        (part-le (before_with_free cutting p) left tenths
        (left-within (red_housing_floor p.mitigation_housing_floor)
        (red_housing_air p.mitigation_housing_air))) hb

    indoor-within : ef_housing_indoor cutting p ≤ m
    indoor-within = le_trans (scrubber-takes p) (le_trans (least-le (before_with_air cutting p) billionths) air-within)

    grazing-within : ef_housing_grazing cutting p ≤ m
    grazing-within = le_trans (least-le (grazing_with_free cutting p) billionths) hg

    parts_within : indoor_part cutting p + grazing_part cutting p ≤ m
    parts_within =
        mean-le m (ef_housing_indoor cutting p) (ef_housing_grazing cutting p) (share_indoor p.housing_type)
        indoor-within grazing-within (share-indoor-le p.housing_type)

    factor-within : ef_nh3_nhousing cutting p ≤ m
    factor-within = le_trans (least-le (indoor_part cutting p + grazing_part cutting p) billionths) parts_within

  -- a free factor below zero makes twice of the rate at most
  module _ (s : SoundPigs p) where
    left_le : free ≤ percent + percent
    left_le = free-le p.free_correction_factor s.free

    before-twice : before_with_free cutting p ≤ rate + rate
    before-twice = div-le_of_le-mul percent (omega (arith, mul-le-mul_left rate left_le))

    grazing-twice : grazing_with_free cutting p ≤ rate + rate
    grazing-twice = div-le_of_le-mul percent (omega (arith, mul-le-mul_left rate left_le))

    pub factor-within-twice : ef_nh3_nhousing cutting p ≤ rate + rate
    factor-within-twice = factor-within (rate + rate) before-twice grazing-twice

    pub factor-within_0972 : ef_nh3_nhousing cutting p ≤ 972_000_000
    factor-within_0972 = omega (arith, factor-within-twice, er-le p.housing_type)

    -- so no ceiling is reached
    below_one : (x : ℕ) → x ≤ rate + rate → least x billionths ≡ x
    below_one x h = rw (le-ltb billionths x (omega (arith, h, er-le p.housing_type))) refl

    pub pig_ceilings_not-reached :
        (ef_housing_indoor_before_air_scrubber cutting p ≡ before_with_air cutting p)
        × (ef_housing_indoor cutting p ≡ with_scrubber cutting p)
        × (ef_housing_grazing cutting p ≡ grazing_with_free cutting p)
        × (ef_nh3_nhousing cutting p ≡ indoor_part cutting p + grazing_part cutting p)
    pig_ceilings_not-reached =
        let air = air-within (rate + rate) before-twice grazing-twice in (
          below_one (before_with_air cutting p) air,
          below_one (with_scrubber cutting p)
              (le_trans
              (part-le (ef_housing_indoor_before_air_scrubber cutting p)
              (tenths - red_air_scrubber p.air_scrubber) tenths (omega arith))
              (le_trans (least-le (before_with_air cutting p) billionths) air)),
          below_one (grazing_with_free cutting p) grazing-twice,
          below_one (indoor_part cutting p + grazing_part cutting p)
              (parts_within (rate + rate) before-twice grazing-twice),
        )

  -- and none below zero no more than the rate
  module _ (n : ℕ) (e : p.free_correction_factor ≡ pos n) where
    at-most-whole : free ≤ percent
    at-most-whole = rw e (omega arith)

    pub factor-within-rate : ef_nh3_nhousing cutting p ≤ er_housing p.housing_type
    factor-within-rate =
        factor-within rate
        (div-le_of_le-mul percent (omega (arith, mul-le-mul_left rate at-most-whole)))
        (div-le_of_le-mul percent (omega (arith, mul-le-mul_left rate at-most-whole)))

    pub factor-within_0486 : ef_nh3_nhousing cutting p ≤ 486_000_000
    factor-within_0486 = le_trans factor-within-rate (er-le p.housing_type)

-- ---- outdoors

module _ (p : Pigs) (e : p.housing_type ≡ housed.Outdoor) (excreted : ℕ) where
  -- no ammonia and nothing kept back, whatever the herd excretes
  no-nh3 : nh3_in_pig_house cutting p 0 ≡ 0
  no-nh3 = rw (zero-mul (ef_nh3_nhousing cutting p)) refl

  nothing-kept : tan_air_scrubber cutting p excreted ≡ 0
  nothing-kept = omega (arith, kept-by-le p.air_scrubber (filtered p excreted), outdoor-filtered p e excreted)

  pub outdoor_house_is-empty : pig_housing cutting p excreted 0 0 ≡ through_door cutting 0 0
  outdoor_house_is-empty =
      ap (λ (x : ℕ). through_pig_house cutting 0 0 x (tan_air_scrubber cutting p excreted)) no-nh3
      ∙ ap (through_pig_house cutting 0 0 0) nothing-kept

  pub outdoor-fractions-are-empty : pig_house cutting p excreted 0 0 ≡ no_pig_house cutting
  outdoor-fractions-are-empty =
      let kept = tan_air_scrubber cutting p excreted in
      ap (λ h. in_fractions cutting p.housing_type kept h.n_outhousing h.tan_outhousing)
      outdoor_house_is-empty
      ∙ ap (λ (x : ℕ). in_fractions cutting p.housing_type x 0 0) nothing-kept
      ∙ ap (λ (t : HousingType). in_fractions cutting t 0 0 0) e

pub outdoors-no-gases : (n : ℕ) → nx_ox cutting housed.Outdoor n ≡ no_nx_ox cutting
outdoors-no-gases n = rw (mul-zero n) refl

-- ---- "n in acid scrubber adds 100% to flux into storage"

module _ (p : Pigs) (tan : ℕ) where
  pub acid_keeps-nothing : p.air_scrubber ≡ scrubber.Acid → tan_air_scrubber cutting p tan ≡ 0
  acid_keeps-nothing e = rw e refl

  pub no-scrubber-keeps-nothing : p.air_scrubber ≡ scrubber.None → tan_air_scrubber cutting p tan ≡ 0
  no-scrubber-keeps-nothing e = rw e refl

-- ---- share_liquid: all or nothing

module _ (p : Pigs) (excreted n tan : ℕ) where
  pub deep_litter_no-liquid : p.housing_type ≡ housed.DeepLitter
      → let h = pig_housing cutting p excreted n tan in
      let q = pig_house cutting p excreted n tan in
      (q.n_outhousing_liquid ≡ 0) × (q.tan_outhousing_liquid ≡ 0)
      × (q.n_outhousing_solid ≡ h.n_outhousing) × (q.tan_outhousing_solid ≡ h.tan_outhousing)
  deep_litter_no-liquid e =
      let s : share_liquid p.housing_type ≡ 0 = rw e refl in
      let h = pig_housing cutting p excreted n tan in
      (rw s refl, rw s refl, rw s (none-less h.n_outhousing), rw s (none-less h.tan_outhousing))
    where
      none-less : (x : ℕ) → x - 0 ≡ x
      none-less x = omega arith

  pub slurry_no_solid : share_liquid p.housing_type ≡ 1
      → let h = pig_housing cutting p excreted n tan in
      let q = pig_house cutting p excreted n tan in
      (q.n_outhousing_solid ≡ 0) × (q.tan_outhousing_solid ≡ 0)
      × (q.n_outhousing_liquid ≡ h.n_outhousing) × (q.tan_outhousing_liquid ≡ h.tan_outhousing)
  slurry_no_solid s =
      let h = pig_housing cutting p excreted n tan in
      (rw s (self_less h.n_outhousing), rw s (self_less h.tan_outhousing), rw s refl, rw s refl)
    where
      self_less : (x : ℕ) → x - x ≡ 0
      self_less x = omega arith

-- which types give slurry
pub slurry_types : (share_liquid housed.SlurryConventional ≡ 1) × (share_liquid housed.SlurryLabel ≡ 1)
    × (share_liquid housed.SlurryLabelOpen ≡ 1)
slurry_types = (refl, refl, refl)

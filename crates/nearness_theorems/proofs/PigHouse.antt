-- A pig house: nothing is cut off its factors, so the ammonia and what the scrubber keeps are cut as portions are. Each
-- of its figures is near where the N and TAN that come into it are. Assumes nothing.
use mathlib.Core.Path.{refl, ap}
use Prim.Native.Nat.{ℕ, zero, suc, ◌+◌, ◌-◌, ◌*◌, ◌≤◌, zero-le}
use native.Mathlib.Nat.{zero-mul, sub_self, mul-pos, le_refl}
use native.Mathlib.Omega.{arith}
use lib.Dec.{lit<, lit≤}
use lib.IntN.{pos, +ℤ_invr}
use Rattle.cut_division.specs.Frac.{Frac, whole, ◌⊖◌}
use Rattle.cut_division.proofs.Products.{mul-to}
use Rattle.cut_division.proofs.Near.{Near, near-whole, near_weaken, near_add, near-rest, near_same, near-at-most}
use Rattle.amounts.specs.Units.{tenths, percent, ten_thousandths, billionths}
use Rattle.amounts.specs.Arithmetic.{cutting}
use Rattle.kinds.specs.declared.Pigs.{Pigs}
use Rattle.kinds.specs.declared.AirScrubber.{AirScrubber}
use Rattle.kinds.specs.declared.AirScrubber.TheVariants as scrubber
use Rattle.kinds.specs.declared.HousingType.{HousingType}
use Rattle.housing.specs.Housing.{c_free_factor_housing}
use Rattle.pig_house.specs.Parameters.{
  row_of,
  c_area,
  share_indoor,
  share_liquid,
  rates_of,
  red_air_scrubber,
  red_housing_floor,
  red_housing_air,
  thousandth,
  hundredth,
}
use Rattle.pig_house.specs.PigHouse.{
  all_or_nothing,
  before_with_free,
  before_with_air,
  ef_housing_indoor_before_air_scrubber,
  ef_housing_indoor,
  grazing_with_free,
  ef_housing_grazing,
  ef_nh3_nhousing,
  nh3_in_pig_house,
  kept_by,
  tan_air_scrubber,
  pig_housing,
  pig_house,
}
use Rattle.pig_house.specs.NxOx.{nx_ox}
use Rattle.pig_house.specs.Bounds.{Enters}
use Rattle.pig_house.proofs.Factor.{share-indoor-le, red_air-scrubber-le, before-le, ef_nh3_nhousing-le}
use Rattle.pig_house.proofs.Fractions.{rates-to}
use Rattle.pig_house.proofs.Through.{pig_house_emits_le}
use Rattle.outputs.specs.Names as names
use Rattle.nearness_theorems.specs.Exact.{exact}
use Rattle.nearness_theorems.proofs.Laws.{near-share}
use Rattle.nearness_theorems.proofs.Exactly.{
  Is,
  Exactly,
  exactly-whole,
  exactly-portion,
  exactly-at-most,
  near_by,
  near-by-first,
}
use Rattle.nearness_theorems.proofs.Figures.{NearSection, end, ◌then◌}

-- ---- all of an amount or nothing, and the rest of it

module _ {lo hi x : ℕ} {q : Frac} (near : Near lo hi (pos x) q) where
  pub near-nothing : Near lo hi (pos 0) (whole 0)
  near-nothing = near_weaken zero-le zero-le (near-whole 0)

  pub less-nothing : Near lo hi (pos (x - 0)) (q ⊖ whole 0)
  less-nothing = near_weaken (omega arith) (omega arith) (near-rest zero-le near (near-whole 0))

  pub less-itself : Near lo hi (pos (x - x)) (q ⊖ q)
  less-itself =
      rw (sub_self x, +ℤ_invr)
      (near_same {q = whole 0} (mul-pos near.above near.above) (ap pos (zero-mul (q.den * q.den))) near-nothing)

  pub near-all_or_nothing : (share : ℕ)
      → Near lo hi (pos (all_or_nothing cutting share x)) (all_or_nothing exact share q)
  near-all_or_nothing zero = near-nothing
  near-all_or_nothing (suc share) = near

  pub near-others : (share : ℕ)
      → Near lo hi (pos (x - all_or_nothing cutting share x)) (q ⊖ all_or_nothing exact share q)
  near-others zero = less-nothing
  near-others (suc share) = less-itself

  near-kept : (s : AirScrubber) → Near lo hi (pos (kept_by cutting s x)) (kept_by exact s q)
  near-kept scrubber.Acid = near-nothing
  near-kept scrubber.Biotrickling = near
  near-kept scrubber.None = near-nothing

-- ---- the factors, exactly: er_housing is in thousandths, and each product takes a ten or a hundred of its million
-- billionths; also where 1 less the free factor passes 1

module _ (p : Pigs) where
  before-free : Exactly 10000 (before_with_free cutting p) (before_with_free exact p)
  before-free =
      exactly-portion 10000 (c_free_factor_housing p.free_correction_factor) percent (lit< tt)
      (exactly-whole thousandth (row_of p.housing_type).er _ (omega arith))

  before-air : Exactly 1000 (before_with_air cutting p) (before_with_air exact p)
  before-air =
      exactly-portion 1000
      ((1 - red_housing_floor p.mitigation_housing_floor)
      * (tenths - red_housing_air p.mitigation_housing_air)) tenths (lit< tt) before-free

  before-scrubber : Exactly 1000 (ef_housing_indoor_before_air_scrubber cutting p)
      (ef_housing_indoor_before_air_scrubber exact p)
  before-scrubber = exactly-at-most 1000 1000000 before-air

  indoor : Exactly 100 (ef_housing_indoor cutting p) (ef_housing_indoor exact p)
  indoor =
      exactly-at-most 100 10000000
      (exactly-portion 100 (tenths - red_air_scrubber p.air_scrubber) tenths (lit< tt) before-scrubber)

  grazing-free : Exactly 10000 (grazing_with_free cutting p) (grazing_with_free exact p)
  grazing-free =
      exactly-portion 10000 (c_free_factor_housing p.free_correction_factor * c_area) percent (lit< tt)
      (exactly-whole thousandth (row_of p.housing_type).er _ refl)

  grazing : Exactly 10000 (ef_housing_grazing cutting p) (ef_housing_grazing exact p)
  grazing = exactly-at-most 10000 100000 grazing-free

  pub ef_exactly : Is (ef_nh3_nhousing cutting p) (ef_nh3_nhousing exact p)
  ef_exactly =
      near-at-most billionths
      (near_add
      (exactly-portion 10 (share_indoor p.housing_type) tenths (lit< tt) indoor).is
      (exactly-portion 1000 (tenths - share_indoor p.housing_type) tenths (lit< tt) grazing).is)

  -- what a scrubber takes of the TAN is at most all
  scrubber-le : share_indoor p.housing_type * red_air_scrubber p.air_scrubber * hundredth ≤ billionths
  scrubber-le =
      mul-to 100 hundredth tt
      (mul-to tenths tenths tt (share-indoor-le p.housing_type) (red_air-scrubber-le p.air_scrubber))
      (lit≤ tt)

  -- ---- the amounts

  pub near-nh3 : {lo hi tan : ℕ} {TAN : Frac} → Near lo hi (pos tan) TAN
      → Near (lo + 1000000) hi (pos (nh3_in_pig_house cutting p tan)) (nh3_in_pig_house exact p TAN)
  near-nh3 near = near_by billionths (lit< tt) (ef_nh3_nhousing-le p) near ef_exactly

  pub near-scrubbed : {lo hi tan : ℕ} {TAN : Frac} → Near lo hi (pos tan) TAN
      → Near (lo + 1000000 + 1000000) hi (pos (tan_air_scrubber cutting p tan)) (tan_air_scrubber exact p TAN)
  near-scrubbed near =
      near-kept
      (near_by billionths (lit< tt) (before-le p)
      (near-by-first billionths (lit< tt) scrubber-le near (near-whole _)) before-scrubber.is)
      p.air_scrubber

-- ---- the sections, from what the herd excretes and what goes into its house

module _ (p : Pigs) {lo hi lo' hi' lo'' hi'' excreted n tan : ℕ} {EXCRETED N TAN : Frac}
    (near-excreted : Near lo hi (pos excreted) EXCRETED)
    (near-n : Near lo' hi' (pos n) N)
    (near-tan : Near lo'' hi'' (pos tan) TAN)
    (enters : Enters p excreted n tan) where
  -- what is left of the N, or of the TAN, that went in
  near-out : {a b x : ℕ} {q : Frac} → tan ≤ x → Near a b (pos x) q
      → Near (a + hi'' + hi) (b + (lo'' + 1000000) + (lo + 1000000 + 1000000))
      (pos (x - nh3_in_pig_house cutting p tan - tan_air_scrubber cutting p excreted))
      (q ⊖ nh3_in_pig_house exact p TAN ⊖ tan_air_scrubber exact p EXCRETED)
  near-out h near =
      let k = pig_house_emits_le p excreted tan enters.housed in
      near-rest (omega arith) (near-rest (omega arith) near (near-nh3 p near-tan)) (near-scrubbed p near-excreted)

  pub n-out : Near (lo' + hi'' + hi) (hi' + (lo'' + 1000000) + (lo + 1000000 + 1000000))
      (pos (pig_housing cutting p excreted n tan).n_outhousing) (pig_housing exact p EXCRETED N TAN).n_outhousing
  n-out = near-out enters.modest.tan_most near-n

  pub tan-out : Near (lo'' + hi'' + hi) (hi'' + (lo'' + 1000000) + (lo + 1000000 + 1000000))
      (pos (pig_housing cutting p excreted n tan).tan_outhousing)
      (pig_housing exact p EXCRETED N TAN).tan_outhousing
  tan-out = near-out (le_refl tan) near-tan

  abbrev pub near-pig-housing : NearSection names.housing (pig_housing cutting p excreted n tan)
      (pig_housing exact p EXCRETED N TAN)
  near-pig-housing = near-n then near-tan then near-nh3 p near-tan then n-out then tan-out then end

  abbrev pub near-pig_house : NearSection names.pig_house (pig_house cutting p excreted n tan)
      (pig_house exact p EXCRETED N TAN)
  near-pig_house =
      near-scrubbed p near-excreted
      then near-all_or_nothing n-out (share_liquid p.housing_type)
      then near-all_or_nothing tan-out (share_liquid p.housing_type)
      then near-others n-out (share_liquid p.housing_type)
      then near-others tan-out (share_liquid p.housing_type)
      then end

-- ---- N2, NO and N2O

module _ (t : HousingType) {lo hi n : ℕ} {N : Frac} (near : Near lo hi (pos n) N) where
  abbrev pub near_nx_ox : NearSection names.nx_ox (nx_ox cutting t n) (nx_ox exact t N)
  near_nx_ox =
      let solid = near-all_or_nothing near (1 - share_liquid t) in
      let liquid = near-all_or_nothing near (share_liquid t) in
      let h = rates-to t in
      near-share (rates_of t).er_n2_nsolid ten_thousandths (lit< tt) h.n2_solid solid
      then near-share (rates_of t).er_no_nsolid ten_thousandths (lit< tt) h.no_solid solid
      then near-share (rates_of t).er_n2o_nsolid ten_thousandths (lit< tt) h.n2o_solid solid
      then near-share (rates_of t).er_n2_nliquid ten_thousandths (lit< tt) h.n2_liquid liquid
      then near-share (rates_of t).er_no_nliquid ten_thousandths (lit< tt) h.no_liquid liquid
      then near-share (rates_of t).er_n2o_nliquid ten_thousandths (lit< tt) h.n2o_liquid liquid
      then end

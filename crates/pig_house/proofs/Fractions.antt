-- All or nothing: the two fractions of a pig house make up what leaves it, and the gases of 2.62 are no more than the N
-- that goes in. Assumes nothing.
use mathlib.Core.Path.{◌≡◌, refl, ◌∙◌}
use Prim.Native.Nat.{ℕ, zero, suc, ◌-◌, ◌≤◌, ◌<◌}
use native.Mathlib.Nat.{le_trans, le_refl}
use native.Mathlib.Omega.{arith}
use Rattle.std.proofs.Common.{zero-le}
use Rattle.cut_division.specs.declared.Quotient.{Quotient}
use Rattle.cut_division.specs.Cut.{undivided}
use Rattle.cut_division.proofs.Shares.{part-le}
use Rattle.amounts.specs.Units.{ten_thousandths}
use Rattle.amounts.specs.Arithmetic.{cutting}
use Rattle.amounts.specs.Dividing.{dividing, uncut, worth}
use Rattle.amounts.specs.Bounds.{UpTo}
use Rattle.kinds.specs.declared.HousingType.{HousingType}
use Rattle.kinds.specs.declared.HousingType.TheVariants as housed
use Rattle.kinds.specs.declared.Pigs.{Pigs}
use Rattle.pig_house.specs.declared.PigFactors.{PigFactors}
use Rattle.pig_house.specs.declared.Scrubbed.{Scrubbed}
use Rattle.pig_house.specs.declared.PigHouse.{PigHouse}
use Rattle.pig_house.specs.declared.NxOxRates.{NxOxRates}
use Rattle.pig_house.specs.declared.HousingRow.{HousingRow}
use Rattle.pig_house.specs.declared.FromFraction.{FromFraction}
use Rattle.pig_house.specs.declared.NxOx.{NxOx}
use Rattle.pig_house.specs.Parameters.{slurry_rates, solid_rates, no_rates, row_of, share_liquid, rates_of}
use Rattle.pig_house.specs.PigHouse.{
  all_or_nothing,
  in_fractions,
  pig_factors,
  no_pig_factors,
  no_scrubbed,
  no_pig_house,
  handed_pig_factors,
  handed_scrubbed,
  handed_pig_house,
}
use Rattle.pig_house.specs.NxOx.{
  NxOxIn,
  n_solid,
  n_liquid,
  emitted,
  nx_ox,
  no_nx_ox,
  handed_nx_ox,
}
use Rattle.pig_house.specs.Bounds.{NxOxRatesTo, NxOxRatesOf, Emitted}

-- ---- an amount times 1 or 0

pub all_or_nothing-le : (share amount : ℕ) → all_or_nothing cutting share amount ≤ amount
all_or_nothing-le zero amount = zero-le
all_or_nothing-le (suc share) amount = le_refl amount

-- the code's step, and its worth where amounts tell their division
pub is_all : (share amount : ℕ) → 0 < share → UpTo amount (all_or_nothing cutting share amount) amount
is_all zero amount h = absurd (omega arith)
is_all (suc share) amount h = record { is = refl; most = le_refl amount }

worth-of : (share n : ℕ) → worth (all_or_nothing dividing share (uncut n)) ≡ all_or_nothing cutting share n
worth-of zero n = refl
worth-of (suc share) n = refl

-- ---- 2.51, the fractions

pub are-fractions : (p : Pigs) (scrubbed : Scrubbed) (n tan share n_liquid tan_liquid : ℕ) (f : PigFactors)
    → f ≡ handed_pig_factors (pig_factors dividing p) → UpTo 1 (share_liquid p.housing_type) share
    → UpTo n (all_or_nothing cutting share n) n_liquid → UpTo tan (all_or_nothing cutting share tan) tan_liquid
    → ◌≡◌ {A = PigHouse} (record {
      factors = f;
      scrubbed = scrubbed;
      n_outhousing_liquid = n_liquid;
      tan_outhousing_liquid = tan_liquid;
      n_outhousing_solid = n - n_liquid;
      tan_outhousing_solid = tan - tan_liquid;
    })
    (handed_pig_house (pig_factors dividing p) scrubbed
    (in_fractions dividing p.housing_type
    (uncut scrubbed.times_ef_housing_indoor_before_air_scrubber.whole) (uncut n) (uncut tan)))
are-fractions p scrubbed n tan share n_liquid tan_liquid f ef u un ut =
    let liquid = share_liquid p.housing_type in
    rw (ef, un.is, ut.is, u.is, worth-of liquid n, worth-of liquid tan) refl

pub is-no_house : (f : PigFactors) (s : Scrubbed) → f ≡ handed_pig_factors (no_pig_factors dividing)
    → s ≡ handed_scrubbed (no_scrubbed dividing)
    → ◌≡◌ {A = PigHouse} (record {
      factors = f;
      scrubbed = s;
      n_outhousing_liquid = 0;
      tan_outhousing_liquid = 0;
      n_outhousing_solid = 0;
      tan_outhousing_solid = 0;
    })
    (handed_pig_house (no_pig_factors dividing) (handed_scrubbed (no_scrubbed dividing)) (no_pig_house dividing))
is-no_house f s ef es = rw (ef, es) refl

-- ---- 2.62

slurry_to : NxOxRatesTo ten_thousandths slurry_rates
slurry_to =
    record {
      n2_solid = omega arith;
      no_solid = omega arith;
      n2o_solid = omega arith;
      n2_liquid = omega arith;
      no_liquid = omega arith;
      n2o_liquid = omega arith;
    }

solid_to : NxOxRatesTo ten_thousandths solid_rates
solid_to =
    record {
      n2_solid = omega arith;
      no_solid = omega arith;
      n2o_solid = omega arith;
      n2_liquid = omega arith;
      no_liquid = omega arith;
      n2o_liquid = omega arith;
    }

none-to : NxOxRatesTo ten_thousandths no_rates
none-to =
    record {
      n2_solid = omega arith;
      no_solid = omega arith;
      n2o_solid = omega arith;
      n2_liquid = omega arith;
      no_liquid = omega arith;
      n2o_liquid = omega arith;
    }

pub rates-to : (t : HousingType) → NxOxRatesTo ten_thousandths (rates_of t)
rates-to housed.SlurryConventional = slurry_to
rates-to housed.SlurryLabel = slurry_to
rates-to housed.SlurryLabelOpen = slurry_to
rates-to housed.DeepLitter = solid_to
rates-to housed.Outdoor = none-to

-- the code's step, from the row of the type
pub are-rates : (t : HousingType) (r : HousingRow) → r ≡ row_of t → NxOxRatesOf (rates_of t) r.rates
are-rates t r e = rw e (record { is = refl; most = rates-to t })

-- a gas as it is handed on
module _ (t : HousingType) (n share solid liquid : ℕ) (r : NxOxRates) (u : UpTo 1 (share_liquid t) share)
    (us : UpTo n (all_or_nothing cutting (1 - share) n) solid) (ul : UpTo n (all_or_nothing cutting share n) liquid)
    (hr : NxOxRatesOf (rates_of t) r) where
  is_solid : solid ≡ worth (n_solid dividing t (uncut n))
  is_solid = us.is ∙ rw u.is (rw (worth-of (1 - share_liquid t) n) refl)

  is-liquid : liquid ≡ worth (n_liquid dividing t (uncut n))
  is-liquid = ul.is ∙ rw u.is (rw (worth-of (share_liquid t) n) refl)

  pub are-gases : (s l : FromFraction)
      → Emitted solid r.er_n2_nsolid r.er_no_nsolid r.er_n2o_nsolid s
      → Emitted liquid r.er_n2_nliquid r.er_no_nliquid r.er_n2o_nliquid l
      → ◌≡◌ {A = NxOx}
      (record {
        n2_nsolid = s.n2;
        no_nsolid = s.no;
        n2o_nsolid = s.n2o;
        n2_nliquid = l.n2;
        no_nliquid = l.no;
        n2o_nliquid = l.n2o;
      })
      (handed_nx_ox (nx_ox dividing t (uncut n)))
  are-gases s l hs hl =
      rw (hs.of_n2.cut, hs.of_no.cut, hs.of_n2o.cut, hl.of_n2.cut, hl.of_no.cut, hl.of_n2o.cut)
      (rw (is_solid, is-liquid, hr.is) refl)

pub are-no-gases : (q : Quotient) → q ≡ undivided 0
    → ◌≡◌ {A = NxOx}
    (record {
      n2_nsolid = q;
      no_nsolid = q;
      n2o_nsolid = q;
      n2_nliquid = q;
      no_nliquid = q;
      n2o_nliquid = q;
    })
    (handed_nx_ox (no_nx_ox dividing))
are-no-gases q e = rw e refl

-- each gas is no more than the N that goes into the house
pub record NxOxTo (m : ℕ) (x : NxOxIn cutting) : Type 0 where
  pub n2_solid : x.n2_nsolid ≤ m
  pub no_solid : x.no_nsolid ≤ m
  pub n2o_solid : x.n2o_nsolid ≤ m
  pub n2_liquid : x.n2_nliquid ≤ m
  pub no_liquid : x.no_nliquid ≤ m
  pub n2o_liquid : x.n2o_nliquid ≤ m

emitted-le : (share n rate : ℕ) → rate ≤ ten_thousandths → emitted cutting (all_or_nothing cutting share n) rate ≤ n
emitted-le share n rate h =
    le_trans (part-le (all_or_nothing cutting share n) rate ten_thousandths h) (all_or_nothing-le share n)

pub nxox-le : (t : HousingType) (n : ℕ) → NxOxTo n (nx_ox cutting t n)
nxox-le t n =
    let s = 1 - share_liquid t in
    let l = share_liquid t in
    let r = rates-to t in
    record {
      n2_solid = emitted-le s n (rates_of t).er_n2_nsolid r.n2_solid;
      no_solid = emitted-le s n (rates_of t).er_no_nsolid r.no_solid;
      n2o_solid = emitted-le s n (rates_of t).er_n2o_nsolid r.n2o_solid;
      n2_liquid = emitted-le l n (rates_of t).er_n2_nliquid r.n2_liquid;
      no_liquid = emitted-le l n (rates_of t).er_no_nliquid r.no_liquid;
      n2o_liquid = emitted-le l n (rates_of t).er_n2o_nliquid r.n2o_liquid;
    }

pub ruleset fraction_steps = (is_all, are-fractions, is-no_house, are-rates, are-gases, are-no-gases)

-- The flow through the housing door, and 2.85 to 2.87: the housing of other roughage-consuming animals and its ammonia.
use Rattle.std.specs.Prelude.{ℕ, ◌-◌, ◌*◌, Bool, ltb, ℤ}
use Rattle.base.specs.Pick.{pick}
use Rattle.amounts.specs.Units.{percent, thousandths, billionths, year, day}
use Rattle.amounts.specs.Arithmetic.{Arithmetic, cutting}
use Rattle.amounts.specs.Dividing.{dividing, handed, worth}
use Rattle.amounts.specs.Portion.{portion}
use Rattle.kinds.specs.declared.Roughage.{Roughage}
use Rattle.kinds.specs.Free.{c_free_factor}
use Rattle.housing.specs.declared.Factors.{Factors}
use Rattle.housing.specs.declared.Housing.{Housing}

-- 2.85, er_housing, 0.275, in thousandths
abbrev pub er_housing : ℕ
er_housing = 275

-- 2.86, c_free_factor_housing, in percent
abbrev pub c_free_factor_housing : ℤ → ℕ
c_free_factor_housing = c_free_factor

pub record HousingIn (A : Arithmetic) : Type 0 where
  pub n_into_housing : A.Amount
  pub tan_into_housing : A.Amount
  pub nh3_nhousing : A.Amount
  pub n_outhousing : A.Amount
  pub tan_outhousing : A.Amount

-- what ef_nh3_nhousing is made of: c_grazing, multiplied by er_housing, and then by c_free_factor_housing
pub record FactorsIn (A : Arithmetic) : Type 0 where
  pub c_grazing : A.Amount
  pub times_er_housing : A.Amount
  pub times_c_free_factor_housing : A.Amount

module _ (A : Arithmetic) where
  open A use {Amount, whole, ◌⊕◌, ◌⊖◌, ◌⊗◌, ◌over◌, ◌at_most◌, k}

  infixl 7 ◌⊗◌
  infixl 6 ◌⊕◌
  infixl 6 ◌⊖◌
  infixl 5 ◌over◌
  infixl 4 ◌at_most◌
  -- 2.87, c_grazing, in billionths: below a whole year on pasture, the hours in the housing, those of grazing days
  -- times k, over the hours in the housing; else 1
  abbrev pub c_grazing : ℕ → ℕ → Amount
  c_grazing days hours =
      pick (ltb (days * hours) (year * day))
      (whole ((year - days) * day * billionths) ⊕ whole (days * (day - hours)) ⊗ k hours over year * day - hours * days)
      (whole billionths)

  -- 2.85, ef_nh3_nhousing, in billionths: er_housing, then the free factor
  abbrev pub with_rate : Roughage → Amount
  with_rate r = portion A (c_grazing r.grazing_days r.grazing_hours) er_housing thousandths

  abbrev pub uncapped : Roughage → Amount
  uncapped r = portion A (with_rate r) (c_free_factor_housing r.free_correction_factor) percent

  -- and then the ceiling of 1, which a free factor below zero can reach (02, W3)
  abbrev pub ef_nh3_nhousing : Roughage → Amount
  ef_nh3_nhousing r = uncapped r at_most billionths

  -- 2.87 and 2.85: the factors on the way, each as it is cut
  abbrev pub factors : Roughage → FactorsIn A
  factors r =
      record {
        c_grazing = c_grazing r.grazing_days r.grazing_hours;
        times_er_housing = with_rate r;
        times_c_free_factor_housing = uncapped r;
      }

  -- a kind whose housing 01 leaves out
  abbrev pub no_factors : FactorsIn A
  no_factors = record { c_grazing = whole 0; times_er_housing = whole 0; times_c_free_factor_housing = whole 0 }

  -- 2.85, nh3_nhousing
  abbrev pub nh3_in_housing : Roughage → Amount → Amount
  nh3_in_housing r tan = tan ⊗ ef_nh3_nhousing r over billionths

  -- 2.85, n_outhousing and tan_outhousing: what came in, what is emitted there, what goes out
  abbrev pub through_housing : Amount → Amount → Amount → HousingIn A
  through_housing n tan nh3 =
      record {
        n_into_housing = n;
        tan_into_housing = tan;
        nh3_nhousing = nh3;
        n_outhousing = n ⊖ nh3;
        tan_outhousing = tan ⊖ nh3;
      }

  -- the housing of a roughage herd into which so much N and TAN goes
  abbrev pub in_housing : Roughage → Amount → Amount → HousingIn A
  in_housing r n tan = through_housing n tan (nh3_in_housing r tan)

  -- 01 leaves the housing of cattle out, and 02, W9, that of dairy cows: only the flow through the door
  abbrev pub through_door : Amount → Amount → HousingIn A
  through_door n tan =
      record {
        n_into_housing = n;
        tan_into_housing = tan;
        nh3_nhousing = whole 0;
        n_outhousing = whole 0;
        tan_outhousing = whole 0;
      }

-- 02, W3, the note: the cut factor is above the ceiling
abbrev pub above_ceiling : Roughage → Bool
above_ceiling r = ltb billionths (uncapped cutting r)

-- ---- the code's structs

-- the factors as they are handed on, each with what was cut off
abbrev pub handed_factors : FactorsIn dividing → Factors
handed_factors f =
    record {
      c_grazing = handed f.c_grazing;
      times_er_housing = handed f.times_er_housing;
      times_c_free_factor_housing = handed f.times_c_free_factor_housing;
    }

-- the housing, beside its factors
abbrev pub handed_housing : FactorsIn dividing → HousingIn dividing → Housing
handed_housing f h =
    record {
      n_into_housing = worth h.n_into_housing;
      tan_into_housing = worth h.tan_into_housing;
      factors = handed_factors f;
      nh3_nhousing = handed h.nh3_nhousing;
      n_outhousing = worth h.n_outhousing;
      tan_outhousing = worth h.tan_outhousing;
    }

-- 2.62 (02, W1): N2, NO and N2O from the solid and the liquid fraction of a pig house, each its rate of the N that goes
-- into the house, once. To be believed.
use Rattle.std.specs.Prelude.{ℕ, ◌-◌}
use Rattle.amounts.specs.Units.{ten_thousandths}
use Rattle.amounts.specs.Arithmetic.{Arithmetic}
use Rattle.amounts.specs.Dividing.{dividing, handed}
use Rattle.amounts.specs.Portion.{portion}
use Rattle.kinds.specs.declared.HousingType.{HousingType}
use Rattle.pig_house.specs.declared.NxOx.{NxOx}
use Rattle.pig_house.specs.Parameters.{share_liquid, rates_of}
use Rattle.pig_house.specs.PigHouse.{all_or_nothing}

-- ---- the gases

pub record NxOxIn (A : Arithmetic) : Type 0 where
  pub n2_nsolid : A.Amount
  pub no_nsolid : A.Amount
  pub n2o_nsolid : A.Amount
  pub n2_nliquid : A.Amount
  pub no_nliquid : A.Amount
  pub n2o_nliquid : A.Amount

module _ (A : Arithmetic) where
  open A use {Amount, whole}

  -- of the solid and of the liquid fraction of the N that goes into the house, each its rate
  abbrev pub n_solid : HousingType → Amount → Amount
  n_solid t n = all_or_nothing A (1 - share_liquid t) n

  abbrev pub n_liquid : HousingType → Amount → Amount
  n_liquid t n = all_or_nothing A (share_liquid t) n

  abbrev pub emitted : Amount → ℕ → Amount
  emitted n rate = portion A n rate ten_thousandths

  abbrev pub nx_ox : HousingType → Amount → NxOxIn A
  nx_ox t n =
      record {
        n2_nsolid = emitted (n_solid t n) (rates_of t).er_n2_nsolid;
        no_nsolid = emitted (n_solid t n) (rates_of t).er_no_nsolid;
        n2o_nsolid = emitted (n_solid t n) (rates_of t).er_n2o_nsolid;
        n2_nliquid = emitted (n_liquid t n) (rates_of t).er_n2_nliquid;
        no_nliquid = emitted (n_liquid t n) (rates_of t).er_no_nliquid;
        n2o_nliquid = emitted (n_liquid t n) (rates_of t).er_n2o_nliquid;
      }

  -- a kind without such a house
  abbrev pub no_nx_ox : NxOxIn A
  no_nx_ox =
      record {
        n2_nsolid = whole 0;
        no_nsolid = whole 0;
        n2o_nsolid = whole 0;
        n2_nliquid = whole 0;
        no_nliquid = whole 0;
        n2o_nliquid = whole 0;
      }

-- ---- the code's struct

-- each gas as it is handed on, with what was cut off
abbrev pub handed_nx_ox : NxOxIn dividing → NxOx
handed_nx_ox x =
    record {
      n2_nsolid = handed x.n2_nsolid;
      no_nsolid = handed x.no_nsolid;
      n2o_nsolid = handed x.n2o_nsolid;
      n2_nliquid = handed x.n2_nliquid;
      no_nliquid = handed x.no_nliquid;
      n2o_nliquid = handed x.n2o_nliquid;
    }

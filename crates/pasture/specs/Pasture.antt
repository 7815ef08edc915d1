-- 2.35, 2.61 and 2.88: what the animals excrete on pasture, the gases from it and what remains. 2.20, of dairy cows,
-- has the formulas of 2.35, at its own rates.
use Rattle.std.specs.Prelude.{ℕ, ◌+◌, ◌-◌, ◌*◌}
use Rattle.amounts.specs.declared.Parts.{Parts}
use Rattle.amounts.specs.Units.{tenths, ten_thousandths, year, day}
use Rattle.amounts.specs.Arithmetic.{Arithmetic}
use Rattle.amounts.specs.Dividing.{dividing, handed, worth}
use Rattle.amounts.specs.Portion.{portion}
use Rattle.kinds.specs.declared.Outdoor.{Outdoor}
use Rattle.kinds.specs.declared.Roughage.{Roughage}
use Rattle.kinds.specs.declared.HousingType.{HousingType}
use Rattle.kinds.specs.declared.HousingType.TheVariants as housed
use Rattle.rates.specs.declared.Rates.{Rates}
use Rattle.rates.specs.Rates.{pigs_rates, roughage_rates}
use Rattle.yard.specs.Yard.{days_with_grazing_and_yard, share_excretion_with_grazing}
use Rattle.pasture.specs.declared.Gases.{Gases}
use Rattle.pasture.specs.declared.Grazing.{Grazing}

-- 2.35, n_into_grazing: the part of the year, in tenths of an hour and tenths of a day
unfoldable pub outdoor_grazing_time : Outdoor → ℕ
outdoor_grazing_time o =
    o.grazing_hours
    * ((o.grazing_days - days_with_grazing_and_yard o) * tenths
    + (tenths - share_excretion_with_grazing o) * days_with_grazing_and_yard o)

-- 2.88, n_into_grazing: the part of the year, in tenths of an hour
unfoldable pub roughage_grazing_time : Roughage → ℕ
roughage_grazing_time r = r.grazing_hours * r.grazing_days

pub record GrazingIn (A : Arithmetic) : Type 0 where
  pub n_into_grazing : A.Amount
  pub tan_into_grazing : A.Amount
  pub nh3_ngrazing : A.Amount
  pub n2_ngrazing : A.Amount
  pub no_ngrazing : A.Amount
  pub n2o_ngrazing : A.Amount
  pub n_remain_grazing : A.Amount
  pub tan_remain_grazing : A.Balance

module _ (A : Arithmetic) where
  open A use {Amount, whole, ◌⊖◌, balance, ◌less◌}

  infixl 6 ◌⊖◌
  infixl 6 ◌less◌
  -- 2.35, n_into_grazing and tan_into_grazing: one cut
  abbrev pub outdoor_into_grazing : Outdoor → Amount → Amount
  outdoor_into_grazing o amount = portion A amount (outdoor_grazing_time o) (day * (tenths * year))

  -- 2.88, n_into_grazing and tan_into_grazing: one cut
  abbrev pub roughage_into_grazing : Roughage → Amount → Amount
  roughage_into_grazing r amount = portion A amount (roughage_grazing_time r) (day * year)

  -- 2.61, n_into_grazing and tan_into_grazing: outdoors all, else nothing
  abbrev pub pigs_into_grazing : HousingType → Amount → Amount
  pigs_into_grazing housed.Outdoor amount = amount
  pigs_into_grazing housed.SlurryConventional amount = whole 0
  pigs_into_grazing housed.SlurryLabel amount = whole 0
  pigs_into_grazing housed.SlurryLabelOpen amount = whole 0
  pigs_into_grazing housed.DeepLitter amount = whole 0

  -- 2.35, 2.61, 2.88, nh3_ngrazing and the others: each its rate of an amount
  abbrev pub gas : Amount → ℕ → Amount
  gas amount rate = portion A amount rate ten_thousandths

  -- 2.35, 2.61, 2.88, n_remain_grazing and tan_remain_grazing: less all four gases, the N and the TAN alike
  abbrev pub after_gases : Amount → Amount → Amount → Amount → Amount → Amount → GrazingIn A
  after_gases n tan nh3 n2 no' n2o =
      record {
        n_into_grazing = n;
        tan_into_grazing = tan;
        nh3_ngrazing = nh3;
        n2_ngrazing = n2;
        no_ngrazing = no';
        n2o_ngrazing = n2o;
        n_remain_grazing = n ⊖ nh3 ⊖ n2 ⊖ no' ⊖ n2o;
        tan_remain_grazing = balance tan less nh3 less n2 less no' less n2o;
      }

  -- the pasture onto which so much N and TAN comes
  abbrev pub on_pasture : Rates → Amount → Amount → GrazingIn A
  on_pasture r n tan = after_gases n tan (gas tan r.nh3) (gas n r.n2) (gas n r.no) (gas n r.n2o)

  -- the pasture of a herd that excretes so much N and TAN: with a yard, at its kind's rates
  abbrev pub outdoor_grazing : Rates → Outdoor → Amount → Amount → GrazingIn A
  outdoor_grazing r o n tan = on_pasture r (outdoor_into_grazing o n) (outdoor_into_grazing o tan)

  abbrev pub roughage_grazing : Roughage → Amount → Amount → GrazingIn A
  roughage_grazing r n tan = on_pasture roughage_rates (roughage_into_grazing r n) (roughage_into_grazing r tan)

  abbrev pub pigs_grazing : HousingType → Amount → Amount → GrazingIn A
  pigs_grazing t n tan = on_pasture pigs_rates (pigs_into_grazing t n) (pigs_into_grazing t tan)

-- ---- the code's structs: whole numbers, and what was cut with what was cut off

abbrev pub handed_gases : GrazingIn dividing → Gases
handed_gases g =
    record {
      nh3 = handed g.nh3_ngrazing;
      n2 = handed g.n2_ngrazing;
      no = handed g.no_ngrazing;
      n2o = handed g.n2o_ngrazing;
    }

-- where what comes onto the pasture is handed on as it is
abbrev pub handed_from : Parts → GrazingIn dividing → Grazing
handed_from into g =
    record {
      into = into;
      gases = handed_gases g;
      n_remain_grazing = worth g.n_remain_grazing;
      tan_remain_grazing = g.tan_remain_grazing.left;
    }

abbrev pub handed_grazing : GrazingIn dividing → Grazing
handed_grazing g = handed_from (record { n = handed g.n_into_grazing; tan = handed g.tan_into_grazing }) g

-- 2.85 and 2.87 worked out by hand with a free factor above 0: a herd on pasture for 200 days of 12 hours, and 25
-- percent less. k at 12 hours is 1.621902755; c is the mean of 1 and k over the 6360 hours in the housing, 2400 of them
-- on grazing days. Then 0.275 of it, and 0.75 of that, each cut to a billionth. Assumes nothing.
use mathlib.Core.Path.{◌≡◌, refl}
use lib.IntN.{pos}
use Rattle.tables.specs.Growth.{k_of, within_day, k_at, nearest, growth_num, growth_den, exp_num, exp_den}
use Rattle.amounts.specs.Arithmetic.{cutting}
use Rattle.kinds.specs.declared.Entered.TheVariants.{Standard}
use Rattle.kinds.specs.declared.Roughage.{Roughage}
use Rattle.housing.specs.Housing.{factors, in_housing}

abbrev quarter_less : Roughage
quarter_less =
    record {
      animalcategory = 0;
      animals = 10;
      inp_n_excretion = Standard;
      tan_fraction = Standard;
      free_correction_factor = pos 25;
      grazing_days = 200;
      grazing_hours = 120;
    }

pub worked-factors :
    factors cutting quarter_less
    ≡ record {
      c_grazing = 1_234_680_284;
      times_er_housing = 339_537_078;
      times_c_free_factor_housing = 254_652_808;
    }
unfolding k_of within_day k_at nearest growth_num growth_den exp_num exp_den
worked-factors = refl

pub worked_quarter_less :
    in_housing cutting quarter_less 2_000_000 1_000_000
    ≡ record {
      n_into_housing = 2_000_000;
      tan_into_housing = 1_000_000;
      nh3_nhousing = 254_652;
      n_outhousing = 1_745_348;
      tan_outhousing = 745_348;
    }
unfolding k_of within_day k_at nearest growth_num growth_den exp_num exp_den
worked_quarter_less = refl

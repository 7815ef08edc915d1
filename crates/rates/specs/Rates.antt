-- 2.20, 2.35, 2.61 and 2.88, Technical Parameters: the emission rates on pasture, in ten-thousandths.
use Rattle.std.specs.Prelude.{ℕ}
use Rattle.kinds.specs.declared.CattleKind.{CattleKind}
use Rattle.kinds.specs.declared.CattleKind.TheVariants.{OtherCattle, DairyCow}
use Rattle.rates.specs.declared.Rates.{Rates}

-- of NH3, N2, NO and N2O
abbrev pub rates : ℕ → ℕ → ℕ → ℕ → Rates
rates nh3 n2 no' n2o = record { nh3 = nh3; n2 = n2; no = no'; n2o = n2o }

-- 2.35, er_cattle_grazing, er_n2_, er_no_, er_n2o_cattle_grazing; and 2.20, er_dairycow_grazing, er_n2_, er_no_,
-- er_n2o_dairycow_grazing
abbrev pub cattle_rates : CattleKind → Rates
cattle_rates OtherCattle = rates 830 0 55 200
cattle_rates DairyCow = rates 830 0 55 200

-- 2.61, er_fattening_pig_grazing, er_n2_, er_no_, er_n2o_fattening_pig_grazing
abbrev pub pigs_rates : Rates
pigs_rates = rates 2000 0 55 200

-- 2.88, er_roughage_consuming_grazing, er_n2_, er_no_, er_n2o_roughage_consuming_grazing
abbrev pub roughage_rates : Rates
roughage_rates = rates 1250 0 55 100

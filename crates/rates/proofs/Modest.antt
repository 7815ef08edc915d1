-- The rates of each kind take no more than there is. Assumes nothing.
use mathlib.Core.Path.{◌≡◌}
use native.Mathlib.Omega.{arith}
use Rattle.kinds.specs.declared.CattleKind.{CattleKind}
use Rattle.kinds.specs.declared.CattleKind.TheVariants.{OtherCattle, DairyCow}
use Rattle.rates.specs.Rates.{cattle_rates, pigs_rates, roughage_rates}
use Rattle.rates.specs.declared.Rates.{Rates}
use Rattle.rates.specs.Bounds.{ModestRates, RatesOf}

pub cattle-rates-modest : (k : CattleKind) → ModestRates (cattle_rates k)
cattle-rates-modest OtherCattle = record { together = omega arith }
cattle-rates-modest DairyCow = record { together = omega arith }

pub pigs-rates-modest : ModestRates pigs_rates
pigs-rates-modest = record { together = omega arith }

pub roughage-rates-modest : ModestRates roughage_rates
roughage-rates-modest = record { together = omega arith }

-- the rates of a kind of cattle, as the code hands them on
pub rates_in : (kind k : CattleKind) {r : Rates} → kind ≡ k → RatesOf (cattle_rates k) r → RatesOf (cattle_rates kind) r
rates_in kind k e h = rw e h

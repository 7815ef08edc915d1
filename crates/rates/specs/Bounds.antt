-- What the contracts say of the rates' sizes: together they take no more than there is.
use Rattle.std.specs.Prelude.{◌≡◌, ◌+◌, ◌≤◌}
use Rattle.amounts.specs.Units.{ten_thousandths}
use Rattle.rates.specs.declared.Rates.{Rates}

pub record ModestRates (r : Rates) : Type 0 where
  pub together : r.nh3 + r.n2 + r.no + r.n2o ≤ ten_thousandths

-- the rates of a page, as the code hands them on
pub record RatesOf (page r : Rates) : Type 0 where
  pub is : r ≡ page
  pub modest : ModestRates r

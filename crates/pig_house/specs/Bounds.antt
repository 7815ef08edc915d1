-- What the contracts of the pig house's code ask and promise of sizes, so that products fit 64 bits and nothing is
-- taken from less. No figure of 001 is defined here.
use Rattle.std.specs.Prelude.{◌≡◌, ℕ, ◌+◌, ◌≤◌}
use Rattle.cut_division.specs.declared.Quotient.{Quotient}
use Rattle.amounts.specs.Units.{ten_thousandths, billionths}
use Rattle.amounts.specs.Dividing.{Divided, handed}
use Rattle.amounts.specs.Bounds.{WithinMostN, PortionOf, most_n}
use Rattle.kinds.specs.declared.HousingType.{HousingType}
use Rattle.kinds.specs.declared.HousingType.TheVariants as housed
use Rattle.kinds.specs.declared.Pigs.{Pigs}
use Rattle.pig_house.specs.declared.NxOxRates.{NxOxRates}
use Rattle.pig_house.specs.declared.FromFraction.{FromFraction}

-- a factor as it is handed on, and at most 2: the ceilings come after the products
pub record FactorOf (d : Divided) (q : Quotient) : Type 0 where
  pub is : q ≡ handed d
  pub most : q.whole ≤ billionths + billionths

-- of the TAN that a herd excretes all goes into the house, and outdoors nothing
pub data Housed : HousingType → ℕ → ℕ → Type 0 where
  indoors : {t : HousingType} {tan : ℕ} → Housed t tan tan
  outdoors : {tan : ℕ} → Housed housed.Outdoor tan 0

-- what goes into a pig house
pub record Enters (p : Pigs) (excreted n tan : ℕ) : Type 0 where
  pub modest : WithinMostN n tan
  pub excreted_most : excreted ≤ most_n
  pub housed : Housed p.housing_type excreted tan

-- the rates of a page, as the code hands them on, each at most 1
pub record NxOxRatesTo (m : ℕ) (r : NxOxRates) : Type 0 where
  pub n2_solid : r.er_n2_nsolid ≤ m
  pub no_solid : r.er_no_nsolid ≤ m
  pub n2o_solid : r.er_n2o_nsolid ≤ m
  pub n2_liquid : r.er_n2_nliquid ≤ m
  pub no_liquid : r.er_no_nliquid ≤ m
  pub n2o_liquid : r.er_n2o_nliquid ≤ m

pub record NxOxRatesOf (page r : NxOxRates) : Type 0 where
  pub is : r ≡ page
  pub most : NxOxRatesTo ten_thousandths r

-- the gases of one fraction, each its rate of the N in it
pub record Emitted (n n2 no' n2o : ℕ) (g : FromFraction) : Type 0 where
  pub of_n2 : PortionOf n n2 ten_thousandths g.n2
  pub of_no : PortionOf n no' ten_thousandths g.no
  pub of_n2o : PortionOf n n2o ten_thousandths g.n2o

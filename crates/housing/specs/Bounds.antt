-- What the contracts of the housing's code promise of sizes, so that products fit 64 bits. No figure of 001 is defined
-- here.
use Rattle.std.specs.Prelude.{◌≡◌, ℕ, ◌≤◌}
use Rattle.cut_division.specs.declared.Quotient.{Quotient}
use Rattle.tables.specs.Growth.{most_k}
use Rattle.amounts.specs.Dividing.{dividing, handed}
use Rattle.housing.specs.Housing.{c_grazing}

-- c_grazing as it is handed on, and no more than k at 24 hours
pub record Grown (days hours : ℕ) (q : Quotient) : Type 0 where
  pub is : q ≡ handed (c_grazing dividing days hours)
  pub most : q.whole ≤ most_k

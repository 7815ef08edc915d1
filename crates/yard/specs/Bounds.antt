-- What the contracts of the yard's code promise of sizes, so that nothing is taken from less. No figure of 001 is
-- defined here.
use Rattle.std.specs.Prelude.{◌≡◌, ℕ, ◌+◌, ◌≤◌}
use Rattle.amounts.specs.Units.{year}
use Rattle.kinds.specs.declared.Outdoor.{Outdoor}
use Rattle.yard.specs.Yard.{days_with_grazing_and_yard}

-- the days with both are grazing days, and yard days, and the other days of each do not pass the year
pub record DaysWithBoth (o : Outdoor) (r : ℕ) : Type 0 where
  pub is : r ≡ days_with_grazing_and_yard o
  pub in_grazing : r ≤ o.grazing_days
  pub in_yard : r ≤ o.yard_days
  pub in_year : o.grazing_days + o.yard_days ≤ year + r

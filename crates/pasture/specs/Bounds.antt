-- What the contracts of the pasture's code promise of sizes: no more leaves a pasture than comes onto it. No figure of
-- 001 is defined here.
use Rattle.std.specs.Prelude.{◌≡◌, ℕ, ◌+◌, ◌≤◌}
use Rattle.amounts.specs.Dividing.{dividing, uncut}
use Rattle.rates.specs.declared.Rates.{Rates}
use Rattle.pasture.specs.declared.Gases.{Gases}
use Rattle.pasture.specs.Pasture.{on_pasture, handed_gases}

pub record Emitted (r : Rates) (n tan : ℕ) (g : Gases) : Type 0 where
  pub is : g ≡ handed_gases (on_pasture dividing r (uncut n) (uncut tan))
  pub together : g.nh3.whole + g.n2.whole + g.no.whole + g.n2o.whole ≤ n

-- 02, W14, of 2.85: where no less N and no less TAN goes into the housing of roughage-consuming animals it emits no
-- less ammonia. The factor, its cuts and its ceiling are not the animals' (`grown_roughage`). Assumes nothing.
use Prim.Native.Nat.{ℕ, ◌≤◌}
use Rattle.amounts.specs.Arithmetic.{cutting}
use Rattle.amounts.proofs.Amounts.{portion-grows}
use Rattle.kinds.specs.declared.Entered.{Entered}
use Rattle.kinds.specs.declared.Roughage.{Roughage}
use Rattle.kinds.proofs.Grown.{grown_roughage}
use Rattle.housing.specs.Housing.{in_housing}

module _ (n more_n tan more_tan : ℕ) (hn : n ≤ more_n) (ht : tan ≤ more_tan) where
  pub housing-grows : (r : Roughage) (animals : ℕ) (entered : Entered)
      → (in_housing cutting r n tan).nh3_nhousing
      ≤ (in_housing cutting (grown_roughage animals entered r) more_n more_tan).nh3_nhousing
  housing-grows r animals entered = search portion-grows

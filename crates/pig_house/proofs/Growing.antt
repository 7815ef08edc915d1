-- 02, W14, of 2.51: where no less TAN goes into a pig house it emits no less ammonia. The factor, its cuts and its
-- ceilings are not the animals' (`grown_pigs`). Assumes nothing.
use Prim.Native.Nat.{ℕ, ◌≤◌}
use Rattle.amounts.specs.Arithmetic.{cutting}
use Rattle.amounts.proofs.Amounts.{portion-grows}
use Rattle.kinds.specs.declared.Pigs.{Pigs}
use Rattle.kinds.proofs.Grown.{grown_pigs}
use Rattle.pig_house.specs.PigHouse.{pig_housing}

module _ (excreted more_excreted n more_n tan more_tan : ℕ) (ht : tan ≤ more_tan) where
  pub pig_house-grows : (p : Pigs) (animals grams : ℕ)
      → (pig_housing cutting p excreted n tan).nh3_nhousing
      ≤ (pig_housing cutting (grown_pigs animals grams p) more_excreted more_n more_tan).nh3_nhousing
  pig_house-grows p animals grams = search portion-grows

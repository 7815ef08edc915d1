-- 02, W14, of 2.35, 2.61 and 2.88: where no less N and no less TAN is excreted, the pasture emits no less ammonia, and
-- a herd without a yard leaves no less for the housing. Of roughage-consuming animals with other animals all else stays
-- (`grown_roughage`): the time on pasture is not the animals'. Assumes nothing.
use Prim.Native.Nat.{ℕ, ◌-◌, ◌*◌, ◌≤◌}
use native.Mathlib.Omega.{arith}
use Rattle.amounts.specs.Units.{year, day}
use Rattle.amounts.specs.Arithmetic.{cutting}
use Rattle.amounts.proofs.Amounts.{portion-grows, rest-grows}
use Rattle.kinds.specs.declared.Entered.{Entered}
use Rattle.kinds.specs.declared.Outdoor.{Outdoor}
use Rattle.kinds.specs.declared.Roughage.{Roughage}
use Rattle.kinds.specs.declared.HousingType.{HousingType}
use Rattle.kinds.specs.declared.HousingType.TheVariants as housed
use Rattle.kinds.specs.Sound.{SoundRoughage}
use Rattle.kinds.proofs.Grown.{grown_roughage}
use Rattle.rates.specs.declared.Rates.{Rates}
use Rattle.pasture.specs.Pasture.{
  roughage_grazing_time,
  roughage_into_grazing,
  pigs_into_grazing,
  outdoor_grazing,
  roughage_grazing,
  pigs_grazing,
}
use Rattle.pasture.proofs.Times.{roughage-grazing_time_le}

-- ---- an amount that is no smaller: what pigs put of it on pasture, and what a herd without a yard leaves of it

module _ (x y : ℕ) (h : x ≤ y) where
  into_pigs-grows : (t : HousingType) → pigs_into_grazing cutting t x ≤ pigs_into_grazing cutting t y
  into_pigs-grows housed.Outdoor = omega arith
  into_pigs-grows housed.SlurryConventional = omega arith
  into_pigs-grows housed.SlurryLabel = omega arith
  into_pigs-grows housed.SlurryLabelOpen = omega arith
  into_pigs-grows housed.DeepLitter = omega arith

  pub pigs-rest-grows : (t : HousingType) → x - pigs_into_grazing cutting t x ≤ y - pigs_into_grazing cutting t y
  pigs-rest-grows housed.Outdoor = omega arith
  pigs-rest-grows housed.SlurryConventional = omega arith
  pigs-rest-grows housed.SlurryLabel = omega arith
  pigs-rest-grows housed.SlurryLabelOpen = omega arith
  pigs-rest-grows housed.DeepLitter = omega arith

  pub roughage-rest-grows : (r : Roughage) (animals : ℕ) (entered : Entered) → SoundRoughage r
      → x - roughage_into_grazing cutting r x ≤ y - roughage_into_grazing cutting (grown_roughage animals entered r) y
  unfolding roughage_grazing_time
  roughage-rest-grows r animals entered s =
      rest-grows x y (roughage_grazing_time r) (day * year) (omega arith) (roughage-grazing_time_le r s) h

-- ---- the ammonia

module _ (n more_n tan more_tan : ℕ) (hn : n ≤ more_n) (ht : tan ≤ more_tan) where
  pub outdoor-pasture-grows : (r : Rates) (o : Outdoor)
      → (outdoor_grazing cutting r o n tan).nh3_ngrazing ≤ (outdoor_grazing cutting r o more_n more_tan).nh3_ngrazing
  outdoor-pasture-grows r o = search portion-grows

  pub roughage-pasture-grows : (r : Roughage) (animals : ℕ) (entered : Entered)
      → let more = grown_roughage animals entered r in
      (roughage_grazing cutting r n tan).nh3_ngrazing ≤ (roughage_grazing cutting more more_n more_tan).nh3_ngrazing
  unfolding roughage_grazing_time
  roughage-pasture-grows r animals entered = search portion-grows

  pub pigs-pasture-grows : (t : HousingType)
      → (pigs_grazing cutting t n tan).nh3_ngrazing ≤ (pigs_grazing cutting t more_n more_tan).nh3_ngrazing
  pigs-pasture-grows t = search (portion-grows, into_pigs-grows)

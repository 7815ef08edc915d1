-- Fattening pigs: each figure is as near its exact value as the table says. Assumes nothing.
use Prim.Native.Nat.{ℕ, ◌-◌}
use lib.IntN.{pos}
use Rattle.cut_division.specs.Frac.{Frac, ◌⊖◌}
use Rattle.cut_division.proofs.Near.{Near}
use Rattle.amounts.specs.Arithmetic.{cutting}
use Rattle.kinds.specs.declared.HousingType.{HousingType}
use Rattle.kinds.specs.declared.HousingType.TheVariants.{
  SlurryConventional,
  SlurryLabel,
  SlurryLabelOpen,
  DeepLitter,
  Outdoor,
}
use Rattle.kinds.specs.declared.Pigs.{Pigs}
use Rattle.rates.specs.Rates.{pigs_rates}
use Rattle.rates.proofs.Modest.{pigs-rates-modest}
use Rattle.excretion.specs.Excretion.{ExcretionIn}
use Rattle.pasture.specs.Pasture.{pigs_into_grazing}
use Rattle.pasture.proofs.Into.{pigs-pasture-modest}
use Rattle.herd.specs.Herd.{pigs_on}
use Rattle.herd.proofs.Housed.{pigs_enter}
use Rattle.nearness_theorems.specs.Errors.{pigs_errors}
use Rattle.nearness_theorems.specs.Exact.{exact}
use Rattle.nearness_theorems.proofs.Figures.{◌then◌, near-at, NearFigures, ◌and◌, near-no-yard}
use Rattle.nearness_theorems.proofs.Excretion.{NearExcretion}
use Rattle.nearness_theorems.proofs.Pasture.{near-grazing}
use Rattle.nearness_theorems.proofs.PigHouse.{
  near-nothing,
  less-nothing,
  less-itself,
  near-pig-housing,
  near-pig_house,
  near_nx_ox,
}

-- ---- where an amount goes, N as TAN: all onto the pasture or all into the house

module _ {lo hi x : ℕ} {q : Frac} (near : Near lo hi (pos x) q) where
  onto_pasture : (t : HousingType) → Near lo hi (pos (pigs_into_grazing cutting t x)) (pigs_into_grazing exact t q)
  onto_pasture Outdoor = near
  onto_pasture SlurryConventional = near-nothing near
  onto_pasture SlurryLabel = near-nothing near
  onto_pasture SlurryLabelOpen = near-nothing near
  onto_pasture DeepLitter = near-nothing near

  through_door_lem : (t : HousingType)
      → Near lo hi (pos (x - pigs_into_grazing cutting t x)) (q ⊖ pigs_into_grazing exact t q)
  through_door_lem Outdoor = less-itself near
  through_door_lem SlurryConventional = less-nothing near
  through_door_lem SlurryLabel = less-nothing near
  through_door_lem SlurryLabelOpen = less-nothing near
  through_door_lem DeepLitter = less-nothing near

-- ---- the figures

pub near-pigs : (p : Pigs) (e : ExcretionIn cutting) (e' : ExcretionIn exact) → NearExcretion e e'
    → NearFigures pigs_errors (pigs_on cutting p e) (pigs_on exact p e')
near-pigs p e e' near =
    let t = p.housing_type in
    let n_inside = through_door_lem near.n-near t in
    let tan-inside = through_door_lem near.tan-near t in
    let enters = pigs_enter p _ _ near.modest in
    near-at
    (near.n-near
    then near.tan-near
    then near-no-yard
    and near-grazing pigs_rates (onto_pasture near.n-near t) (onto_pasture near.tan-near t) pigs-rates-modest
    (pigs-pasture-modest t _ _ near.modest)
    and near-pig-housing p near.tan-near n_inside tan-inside enters
    and near-pig_house p near.tan-near n_inside tan-inside enters
    and near_nx_ox t n_inside)

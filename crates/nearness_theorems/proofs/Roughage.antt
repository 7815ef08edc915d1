-- Other roughage-consuming animals: each figure is as near its exact value as the table says. Assumes nothing.
use Prim.Native.Nat.{ℕ, ◌+◌, ◌-◌, ◌*◌}
use native.Mathlib.Nat.{le_trans}
use lib.Dec.{lit<}
use lib.IntN.{pos}
use Rattle.cut_division.specs.Frac.{Frac, ◌⊖◌}
use Rattle.cut_division.proofs.Near.{Near, near-rest}
use Rattle.amounts.specs.Units.{year, day}
use Rattle.amounts.specs.Arithmetic.{cutting}
use Rattle.amounts.specs.Bounds.{WithinMostN}
use Rattle.kinds.specs.declared.Roughage.{Roughage}
use Rattle.kinds.specs.Sound.{SoundRoughage}
use Rattle.rates.specs.Rates.{roughage_rates}
use Rattle.rates.proofs.Modest.{roughage-rates-modest}
use Rattle.excretion.specs.Excretion.{ExcretionIn}
use Rattle.pasture.specs.Pasture.{roughage_grazing_time, roughage_into_grazing}
use Rattle.pasture.proofs.Times.{roughage-grazing_time_le}
use Rattle.pasture.proofs.Into.{roughage_into_le, roughage-pasture-modest, roughage-housing-modest}
use Rattle.housing.specs.Housing.{nh3_in_housing}
use Rattle.housing.proofs.InHousing.{nh3_in_housing-le}
use Rattle.herd.specs.Herd.{roughage_on}
use Rattle.nearness_theorems.specs.ByName.{entry_of}
use Rattle.nearness_theorems.specs.Errors.{exactly, roughage_errors}
use Rattle.nearness_theorems.specs.Exact.{exact}
use Rattle.nearness_theorems.proofs.Laws.{NearBy, near-share}
use Rattle.nearness_theorems.proofs.Figures.{
  ◌then◌,
  near-at,
  NearFigures,
  ◌and◌,
  near-no-yard,
  near-no-pig_house,
  near-no_nx_ox,
}
use Rattle.nearness_theorems.proofs.Excretion.{NearExcretion}
use Rattle.nearness_theorems.proofs.Pasture.{near-grazing}
use Rattle.nearness_theorems.proofs.Housing.{near-nh3_in_housing}

-- ---- where an amount goes, N as TAN

-- into the housing goes what remains
abbrev inside : Roughage → ℕ → ℕ
inside r x = x - roughage_into_grazing cutting r x

abbrev exact_inside : Roughage → Frac → Frac
exact_inside r q = q ⊖ roughage_into_grazing exact r q

module _ (r : Roughage) (s : SoundRoughage r) {lo hi x : ℕ} {q : Frac} (near : Near lo hi (pos x) q) where
  onto_pasture : Near (lo + 1000000) hi (pos (roughage_into_grazing cutting r x)) (roughage_into_grazing exact r q)
  onto_pasture = near-share (roughage_grazing_time r) (day * year) (lit< tt) (roughage-grazing_time_le r s) near

  through_door_lem : Near (lo + hi) (hi + (lo + 1000000)) (pos (inside r x)) (exact_inside r q)
  through_door_lem = near-rest (roughage_into_le r s x) near onto_pasture

-- ---- the figures

module _ (r : Roughage) (s : SoundRoughage r) (e : ExcretionIn cutting) (e' : ExcretionIn exact)
    (near : NearExcretion e e') where
  n-on : Near 1000000 0 (pos (roughage_into_grazing cutting r e.n_excretion))
      (roughage_into_grazing exact r e'.n_excretion)
  n-on = onto_pasture r s near.n-near

  tan-on : Near 2000000 0 (pos (roughage_into_grazing cutting r e.tan_excretion))
      (roughage_into_grazing exact r e'.tan_excretion)
  tan-on = onto_pasture r s near.tan-near

  pasture : WithinMostN (roughage_into_grazing cutting r e.n_excretion)
      (roughage_into_grazing cutting r e.tan_excretion)
  pasture = roughage-pasture-modest r s _ _ near.modest

  n_inside : Near 0 1000000 (pos (inside r e.n_excretion)) (exact_inside r e'.n_excretion)
  n_inside = through_door_lem r s near.n-near

  tan-inside : Near 1000000 2000000 (pos (inside r e.tan_excretion)) (exact_inside r e'.tan_excretion)
  tan-inside = through_door_lem r s near.tan-near

  housing : WithinMostN (inside r e.n_excretion) (inside r e.tan_excretion)
  housing = roughage-housing-modest r s _ _ near.modest

  nh3 : NearBy (entry_of exactly roughage_errors "nh3_nhousing")
      (pos (nh3_in_housing cutting r (inside r e.tan_excretion)))
      (nh3_in_housing exact r (exact_inside r e'.tan_excretion))
  nh3 = near-nh3_in_housing r s (le_trans housing.tan_most housing.n_most) tan-inside

  pub near-roughage : NearFigures roughage_errors (roughage_on cutting r e) (roughage_on exact r e')
  near-roughage =
      near-at
      (near.n-near
      then near.tan-near
      then near-no-yard
      and near-grazing roughage_rates n-on tan-on roughage-rates-modest pasture
      and n_inside
      then tan-inside
      then nh3
      then near-rest (le_trans (nh3_in_housing-le r _) housing.tan_most) n_inside nh3
      then near-rest (nh3_in_housing-le r _) tan-inside nh3
      then near-no-pig_house
      and near-no_nx_ox)

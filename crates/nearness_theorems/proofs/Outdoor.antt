-- A herd with a yard: how near each figure is to its exact value, at the rates of any kind; and cattle, as near as the
-- table says. Assumes nothing.
use Prim.Native.Nat.{ℕ, ◌+◌, ◌-◌, ◌*◌}
use native.Mathlib.Nat.{le_trans}
use native.Mathlib.Omega.{arith}
use lib.Dec.{lit<}
use lib.IntN.{pos}
use Rattle.cut_division.specs.Frac.{Frac, ◌⊖◌}
use Rattle.cut_division.proofs.Near.{Near, near-rest}
use Rattle.amounts.specs.Units.{tenths, percent, ten_thousandths, year, day}
use Rattle.amounts.specs.Arithmetic.{cutting}
use Rattle.amounts.specs.Bounds.{WithinMostN}
use Rattle.kinds.specs.declared.Outdoor.{Outdoor}
use Rattle.kinds.specs.declared.CattleKind.{CattleKind}
use Rattle.kinds.specs.declared.CattleKind.TheVariants.{OtherCattle, DairyCow}
use Rattle.kinds.specs.declared.Cattle.{Cattle}
use Rattle.kinds.specs.Sound.{SoundOutdoor, SoundCattle}
use Rattle.rates.specs.declared.Rates.{Rates}
use Rattle.rates.specs.Rates.{cattle_rates}
use Rattle.rates.specs.Bounds.{ModestRates}
use Rattle.rates.proofs.Modest.{cattle-rates-modest}
use Rattle.excretion.specs.Excretion.{ExcretionIn}
use Rattle.yard.specs.Yard.{yard_time, ef_nh3_nyard, into_yard, nh3_on_yard}
use Rattle.yard.proofs.Times.{yard_time-le}
use Rattle.yard.proofs.OnYard.{yard-rate-le, yard-modest, nh3-on-yard-le}
use Rattle.pasture.specs.Pasture.{outdoor_grazing_time, outdoor_into_grazing}
use Rattle.pasture.proofs.Times.{outdoor-grazing_time_le}
use Rattle.pasture.proofs.Into.{outdoor_into_le, outdoor-pasture-modest}
use Rattle.outputs.specs.Names.{figures}
use Rattle.outputs.specs.Grams.{grams_of}
use Rattle.herd.specs.Herd.{outdoor_on}
use Rattle.nearness_theorems.specs.Errors.{cattle_errors}
use Rattle.nearness_theorems.specs.Exact.{exact}
use Rattle.nearness_theorems.proofs.Laws.{near-share}
use Rattle.nearness_theorems.proofs.Figures.{
  NearAll,
  ◌then◌,
  near-at,
  NearFigures,
  ◌and◌,
  near-no-pig_house,
  near-no_nx_ox,
  near_door,
}
use Rattle.nearness_theorems.proofs.Excretion.{NearExcretion}
use Rattle.nearness_theorems.proofs.Pasture.{near-grazing}

-- ---- where an amount goes, N as TAN

module _ (o : Outdoor) (s : SoundOutdoor o) {lo hi x : ℕ} {q : Frac} (near : Near lo hi (pos x) q) where
  onto_yard_lem : Near (lo + 1000000) hi (pos (into_yard cutting o x)) (into_yard exact o q)
  onto_yard_lem = near-share (yard_time o) (tenths * year) (lit< tt) (yard_time-le o s) near

  onto_pasture : Near (lo + 1000000) hi (pos (outdoor_into_grazing cutting o x)) (outdoor_into_grazing exact o q)
  onto_pasture =
      near-share (outdoor_grazing_time o) (day * (tenths * year)) (lit< tt) (outdoor-grazing_time_le o s) near

  through_door_lem : Near (lo + hi + hi) (hi + (lo + 1000000) + (lo + 1000000))
      (pos (x - into_yard cutting o x - outdoor_into_grazing cutting o x))
      (q ⊖ into_yard exact o q ⊖ outdoor_into_grazing exact o q)
  through_door_lem = let h = outdoor_into_le o s x in
      near-rest (omega arith) (near-rest (omega arith) near onto_yard_lem) onto_pasture

-- ---- NH3 on the yard

near-nh3-yard : (o : Outdoor) → SoundOutdoor o → {lo hi tan : ℕ} {TAN : Frac} → Near lo hi (pos tan) TAN
    → Near (lo + 1000000) hi (pos (nh3_on_yard cutting o tan)) (nh3_on_yard exact o TAN)
near-nh3-yard o s = near-share (ef_nh3_nyard o) (ten_thousandths * percent * percent) (lit< tt) (yard-rate-le o s)

-- ---- the figures

module _ (r : Rates) (hr : ModestRates r) (o : Outdoor) (s : SoundOutdoor o) (e : ExcretionIn cutting)
    (e' : ExcretionIn exact) (near : NearExcretion e e') where
  n-yard : Near 1000000 0 (pos (into_yard cutting o e.n_excretion)) (into_yard exact o e'.n_excretion)
  n-yard = onto_yard_lem o s near.n-near

  tan-yard : Near 2000000 0 (pos (into_yard cutting o e.tan_excretion)) (into_yard exact o e'.tan_excretion)
  tan-yard = onto_yard_lem o s near.tan-near

  n-on : Near 1000000 0 (pos (outdoor_into_grazing cutting o e.n_excretion))
      (outdoor_into_grazing exact o e'.n_excretion)
  n-on = onto_pasture o s near.n-near

  tan-on : Near 2000000 0 (pos (outdoor_into_grazing cutting o e.tan_excretion))
      (outdoor_into_grazing exact o e'.tan_excretion)
  tan-on = onto_pasture o s near.tan-near

  yard : WithinMostN (into_yard cutting o e.n_excretion) (into_yard cutting o e.tan_excretion)
  yard = yard-modest o s _ _ near.modest

  pasture : WithinMostN (outdoor_into_grazing cutting o e.n_excretion)
      (outdoor_into_grazing cutting o e.tan_excretion)
  pasture = outdoor-pasture-modest o s _ _ near.modest

  abbrev near-outdoor : NearAll (grams_of (outdoor_on cutting r o e)) (figures exact (outdoor_on exact r o e'))
  near-outdoor =
      near.n-near
      then near.tan-near
      then n-yard
      then tan-yard
      then near-nh3-yard o s tan-yard
      then near-rest (le_trans (nh3-on-yard-le o s _) yard.tan_most) n-yard (near-nh3-yard o s tan-yard)
      then near-rest (nh3-on-yard-le o s _) tan-yard (near-nh3-yard o s tan-yard)
      then near-grazing r n-on tan-on hr pasture
      and near_door (through_door_lem o s near.n-near) (through_door_lem o s near.tan-near)
      and near-no-pig_house
      and near-no_nx_ox

-- at the rates of either kind of cattle
near_of : (k : CattleKind) (o : Outdoor) → SoundOutdoor o → (e : ExcretionIn cutting) (e' : ExcretionIn exact)
    → NearExcretion e e'
    → NearFigures cattle_errors (outdoor_on cutting (cattle_rates k) o e) (outdoor_on exact (cattle_rates k) o e')
near_of OtherCattle o s e e' near =
    near-at (near-outdoor (cattle_rates OtherCattle) (cattle-rates-modest OtherCattle) o s e e' near)
near_of DairyCow o s e e' near =
    near-at (near-outdoor (cattle_rates DairyCow) (cattle-rates-modest DairyCow) o s e e' near)

pub near-cattle : (c : Cattle) → SoundCattle c → (e : ExcretionIn cutting) (e' : ExcretionIn exact) → NearExcretion e e'
    → let r = cattle_rates c.kind in
    NearFigures cattle_errors (outdoor_on cutting r c.outdoor e) (outdoor_on exact r c.outdoor e')
near-cattle c s = near_of c.kind c.outdoor s.outdoor

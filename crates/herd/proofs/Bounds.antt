-- No figure of a sound herd, of whatever kind, is above a bound. So the sums over the herds of a farm fit.
-- Assumes nothing.
use Prim.Native.Nat.{ℕ, ◌+◌, ◌-◌, ◌≤◌}
use native.Mathlib.Omega.{arith}
use lib.IntN.{pos, nat_abs, ◌-ℤ◌}
use Rattle.cut_division.proofs.Signed.{abs_sub}
use Rattle.amounts.specs.Arithmetic.{cutting}
use Rattle.amounts.specs.Bounds.{WithinMostN}
use Rattle.kinds.specs.declared.HousingType.{HousingType}
use Rattle.kinds.specs.declared.Inputs.{Inputs}
use Rattle.kinds.specs.Sound.{Sound}
use Rattle.rates.specs.declared.Rates.{Rates}
use Rattle.rates.specs.Rates.{roughage_rates, pigs_rates}
use Rattle.rates.specs.Bounds.{ModestRates}
use Rattle.rates.proofs.Modest.{roughage-rates-modest, pigs-rates-modest}
use Rattle.excretion.specs.Excretion.{ExcretionIn}
use Rattle.yard.specs.Yard.{into_yard, through_yard}
use Rattle.yard.proofs.OnYard.{yard-modest, nh3-on-yard-le}
use Rattle.pasture.specs.Pasture.{outdoor_into_grazing, roughage_into_grazing, pigs_into_grazing, gas, on_pasture}
use Rattle.pasture.specs.Pasture.{after_gases}
use Rattle.pasture.proofs.OnPasture.{gases-le}
use Rattle.pasture.proofs.Into.{
  outdoor-pasture-modest,
  roughage-pasture-modest,
  roughage-housing-modest,
  pigs-pasture-modest,
}
use Rattle.housing.specs.Housing.{through_housing, through_door}
use Rattle.housing.proofs.InHousing.{nh3_in_housing-le}
use Rattle.pig_house.specs.Parameters.{share_liquid}
use Rattle.pig_house.specs.PigHouse.{through_pig_house, in_fractions, pig_housing, nh3_in_pig_house, tan_air_scrubber}
use Rattle.pig_house.specs.NxOx as NxOx
use Rattle.pig_house.proofs.Fractions.{all_or_nothing-le, nxox-le}
use Rattle.pig_house.proofs.Through.{pig_house_emits_le}
use Rattle.outputs.specs.Sections.{FiguresIn}
use Rattle.outputs.specs.Names.{excretion, yard, grazing, housing, pig_house, nx_ox}
use Rattle.outputs.specs.Grams.{grams_of, GramsTo}
use Rattle.outputs.proofs.Bounds.{SectionTo, sections_to}
use Rattle.herd.specs.Herd.{roughage_on, outdoor_on, pigs_on, figures_of}
use Rattle.herd.proofs.Housed.{pigs_enter}
use Rattle.herd.proofs.Made.{Made, of-roughage, of-outdoor, of-pigs, made}

-- what no figure of a sound herd is above
abbrev pub most : ℕ
most = 4000000000

-- ---- section by section

excretion-to : (e : ExcretionIn cutting) → WithinMostN e.n_excretion e.tan_excretion
    → SectionTo most excretion e
excretion-to e m = omega arith

yard-to : {n tan nh3 : ℕ} → WithinMostN n tan → nh3 ≤ tan → SectionTo most yard (through_yard cutting n tan nh3)
yard-to m h = omega arith

housing-to : {n tan nh3 : ℕ} → WithinMostN n tan → nh3 ≤ tan
    → SectionTo most housing (through_housing cutting n tan nh3)
housing-to m h = omega arith

-- of cattle the housing is left out, and the door lets through a rest of what is excreted
door_to : (n tan n' tan' : ℕ) → WithinMostN n tan → n' ≤ n → tan' ≤ tan
    → SectionTo most housing (through_door cutting n' tan')
door_to n tan n' tan' m hn ht = omega arith

-- of a pig house: what is emitted and kept back is no more than what goes in
pig-housing-to : (n tan nh3 scrubbed : ℕ) → WithinMostN n tan → nh3 + scrubbed ≤ tan
    → SectionTo most housing (through_pig_house cutting n tan nh3 scrubbed)
pig-housing-to n tan nh3 scrubbed m h = omega arith

fractions-to : (t : HousingType) (scrubbed n tan : ℕ) → scrubbed ≤ most → n ≤ most → tan ≤ most
    → SectionTo most pig_house (in_fractions cutting t scrubbed n tan)
fractions-to t scrubbed n tan ks kn kt =
    omega (arith, all_or_nothing-le (share_liquid t) n, all_or_nothing-le (share_liquid t) tan)

nxox-to : (t : HousingType) (n : ℕ) → n ≤ most → SectionTo most nx_ox (NxOx.nx_ox cutting t n)
nxox-to t n h =
    let x = nxox-le t n in
    omega (arith, x.n2_solid, x.no_solid, x.n2o_solid, x.n2_liquid, x.no_liquid, x.n2o_liquid)

-- what is left of the TAN is no larger than the TAN and the gases together
remain_le : (tan a b c d : ℕ) → nat_abs (pos tan -ℤ pos a -ℤ pos b -ℤ pos c -ℤ pos d) ≤ tan + (a + b + c + d)
remain_le tan a b c d =
    omega (
      arith,
      abs_sub (pos tan) (pos a),
      abs_sub (pos tan -ℤ pos a) (pos b),
      abs_sub (pos tan -ℤ pos a -ℤ pos b) (pos c),
      abs_sub (pos tan -ℤ pos a -ℤ pos b -ℤ pos c) (pos d),
    )

gases-to : (n tan a b c d : ℕ) → WithinMostN n tan → a + b + c + d ≤ n
    → SectionTo most grazing (after_gases cutting n tan a b c d)
gases-to n tan a b c d m h = omega (arith, remain_le tan a b c d)

pasture-to : (r : Rates) {n tan : ℕ} → ModestRates r → WithinMostN n tan
    → SectionTo most grazing (on_pasture cutting r n tan)
pasture-to r {n} {tan} hr m =
    gases-to n tan (gas cutting tan r.nh3) (gas cutting n r.n2) (gas cutting n r.no) (gas cutting n r.n2o) m
    (gases-le r n tan hr m)

-- ---- kind by kind

pub made-to : {f : FiguresIn cutting} → Made f → GramsTo most (grams_of f)
made-to (of-roughage r e s m) =
    let n = e.n_excretion in
    let tan = e.tan_excretion in
    sections_to most (roughage_on cutting r e) (excretion-to e m) (omega arith)
    (pasture-to roughage_rates roughage-rates-modest (roughage-pasture-modest r s n tan m))
    (housing-to (roughage-housing-modest r s n tan m) (nh3_in_housing-le r (tan - roughage_into_grazing cutting r tan)))
    (omega arith) (omega arith)
made-to (of-outdoor r o e hr s m) =
    let n = e.n_excretion in
    let tan = e.tan_excretion in
    sections_to most (outdoor_on cutting r o e) (excretion-to e m)
    (yard-to (yard-modest o s n tan m) (nh3-on-yard-le o s (into_yard cutting o tan)))
    (pasture-to r hr (outdoor-pasture-modest o s n tan m))
    (door_to n tan (n - into_yard cutting o n - outdoor_into_grazing cutting o n)
    (tan - into_yard cutting o tan - outdoor_into_grazing cutting o tan) m (omega arith) (omega arith))
    (omega arith) (omega arith)
made-to (of-pigs p e s m) =
    let t = p.housing_type in
    let excreted = e.tan_excretion in
    let n = e.n_excretion - pigs_into_grazing cutting t e.n_excretion in
    let tan = excreted - pigs_into_grazing cutting t excreted in
    let enters = pigs_enter p e.n_excretion excreted m in
    let emits = pig_house_emits_le p excreted tan enters.housed in
    sections_to most (pigs_on cutting p e) (excretion-to e m) (omega arith)
    (pasture-to pigs_rates pigs-rates-modest (pigs-pasture-modest t e.n_excretion excreted m))
    (pig-housing-to n tan (nh3_in_pig_house cutting p tan) (tan_air_scrubber cutting p excreted) enters.modest emits)
    (fractions-to t (tan_air_scrubber cutting p excreted) (pig_housing cutting p excreted n tan).n_outhousing
    (pig_housing cutting p excreted n tan).tan_outhousing
    (omega (arith, enters.modest)) (omega (arith, enters.modest)) (omega (arith, enters.modest)))
    (nxox-to t n (omega (arith, enters.modest)))

pub figures-to : (i : Inputs) → Sound i → GramsTo most (figures_of i).grams
unfolding figures_of
figures-to i s = made-to (made s)

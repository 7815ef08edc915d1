-- What each kind of herd puts on yard and pasture, and what is left for the housing: never more than it excretes, and
-- the TAN never more than the N. With a yard the rest has two cuts, and there the TAN may pass the N by a gram.
-- Assumes nothing.
use mathlib.Core.Path.{◌≡◌, refl, ◌∙◌}
use Prim.Native.Nat.{ℕ, ◌+◌, ◌-◌, ◌*◌, ◌≤◌}
use native.Mathlib.Nat.{le_refl}
use native.Mathlib.Omega.{arith}
use Rattle.std.proofs.Common.{zero-le}
use Rattle.cut_division.specs.declared.Quotient.{Quotient}
use Rattle.cut_division.specs.Cut.{undivided}
use Rattle.cut_division.proofs.Products.{mul-to}
use Rattle.cut_division.proofs.Shares.{part-le, parts-over-le}
use Rattle.amounts.specs.declared.Parts.{Parts}
use Rattle.amounts.specs.Units.{tenths, year, day}
use Rattle.amounts.specs.Arithmetic.{cutting}
use Rattle.amounts.specs.Dividing.{dividing, uncut}
use Rattle.amounts.specs.Bounds.{WithinMostN, PortionsOf}
use Rattle.amounts.proofs.Amounts.{modest-share, modest-rest}
use Rattle.kinds.specs.declared.Outdoor.{Outdoor}
use Rattle.kinds.specs.declared.Roughage.{Roughage}
use Rattle.kinds.specs.declared.HousingType.{HousingType}
use Rattle.kinds.specs.declared.HousingType.TheVariants as housed
use Rattle.kinds.specs.Sound.{SoundOutdoor, SoundRoughage}
use Rattle.rates.specs.declared.Rates.{Rates}
use Rattle.rates.specs.Rates.{pigs_rates, roughage_rates}
use Rattle.rates.specs.Bounds.{RatesOf}
use Rattle.yard.specs.Yard.{yard_time, into_yard}
use Rattle.pasture.specs.declared.Grazing.{Grazing}
use Rattle.pasture.specs.Pasture.{
  outdoor_grazing_time,
  roughage_grazing_time,
  outdoor_into_grazing,
  roughage_into_grazing,
  pigs_into_grazing,
  on_pasture,
  outdoor_grazing,
  roughage_grazing,
  pigs_grazing,
  handed_from,
  handed_grazing,
}
use Rattle.pasture.proofs.Times.{outdoor-grazing_time_le, times-le, roughage-grazing_time_le}

-- ---- a herd with a yard

module _ (o : Outdoor) (s : SoundOutdoor o) where
  pub outdoor_into_le : (n : ℕ) → into_yard cutting o n + outdoor_into_grazing cutting o n ≤ n
  outdoor_into_le n =
      parts-over-le n (yard_time o) (outdoor_grazing_time o) (tenths * year) (day * (tenths * year)) (omega arith)
      (omega arith) (omega (arith, times-le o s))

  pub outdoor-pasture-modest : (n tan : ℕ) → WithinMostN n tan
      → WithinMostN (outdoor_into_grazing cutting o n) (outdoor_into_grazing cutting o tan)
  outdoor-pasture-modest n tan m =
      modest-share n tan (outdoor_grazing_time o) (day * (tenths * year)) m (outdoor-grazing_time_le o s)

-- ---- roughage-consuming animals

module _ (r : Roughage) (s : SoundRoughage r) where
  pub roughage_into_le : (n : ℕ) → roughage_into_grazing cutting r n ≤ n
  roughage_into_le n = part-le n (roughage_grazing_time r) (day * year) (roughage-grazing_time_le r s)

  pub roughage-pasture-modest : (n tan : ℕ) → WithinMostN n tan
      → WithinMostN (roughage_into_grazing cutting r n) (roughage_into_grazing cutting r tan)
  roughage-pasture-modest n tan m =
      modest-share n tan (roughage_grazing_time r) (day * year) m (roughage-grazing_time_le r s)

  pub roughage-housing-modest : (n tan : ℕ) → WithinMostN n tan
      → WithinMostN (n - roughage_into_grazing cutting r n) (tan - roughage_into_grazing cutting r tan)
  roughage-housing-modest n tan m =
      modest-rest n tan (roughage_grazing_time r) (day * year) m (omega arith) (roughage-grazing_time_le r s)

-- ---- pigs

nothing : WithinMostN 0 0
nothing = record { n_most = omega arith; tan_most = omega arith }

pub pigs-pasture-modest : (t : HousingType) (n tan : ℕ) → WithinMostN n tan
    → WithinMostN (pigs_into_grazing cutting t n) (pigs_into_grazing cutting t tan)
pigs-pasture-modest housed.Outdoor n tan m = m
pigs-pasture-modest housed.SlurryConventional n tan m = nothing
pigs-pasture-modest housed.SlurryLabel n tan m = nothing
pigs-pasture-modest housed.SlurryLabelOpen n tan m = nothing
pigs-pasture-modest housed.DeepLitter n tan m = nothing

pub pigs_into_le : (t : HousingType) (n : ℕ) → pigs_into_grazing cutting t n ≤ n
pigs_into_le housed.Outdoor n = le_refl n
pigs_into_le housed.SlurryConventional n = zero-le
pigs_into_le housed.SlurryLabel n = zero-le
pigs_into_le housed.SlurryLabelOpen n = zero-le
pigs_into_le housed.DeepLitter n = zero-le

-- ---- the code's steps

pub roughage_time_within : (hours days : ℕ) → hours ≤ day → days ≤ year → hours * days ≤ day * year
roughage_time_within hours days hh hd = mul-to day year tt hh hd

pub into_roughage : (h : Roughage) (n tan : ℕ) (r : Parts)
    → PortionsOf n tan (h.grazing_hours * h.grazing_days) (day * year) r
    → PortionsOf n tan (roughage_grazing_time h) (day * year) r
unfolding roughage_grazing_time
into_roughage h n tan r p = p

module _ (r : Rates) (n tan : ℕ) (into : Parts) (g : Grazing)
    (eg : g ≡ handed_from into (on_pasture dividing r (uncut into.n.whole) (uncut into.tan.whole))) where
  pub is-outdoor-grazing : (o : Outdoor) → PortionsOf n tan (outdoor_grazing_time o) (day * (tenths * year)) into
      → g ≡ handed_grazing (outdoor_grazing dividing r o (uncut n) (uncut tan))
  is-outdoor-grazing o p = eg ∙ rw (p.for_n.cut, p.for_tan.cut) refl

  pub is-roughage-grazing : (h : Roughage) → RatesOf roughage_rates r
      → PortionsOf n tan (roughage_grazing_time h) (day * year) into
      → g ≡ handed_grazing (roughage_grazing dividing h (uncut n) (uncut tan))
  is-roughage-grazing h er p = eg ∙ rw (er.is, p.for_n.cut, p.for_tan.cut) refl

-- what pigs put on pasture of a whole number is a whole number
pub pigs-undivided : (t : HousingType) (x : ℕ)
    → pigs_into_grazing dividing t (uncut x) ≡ uncut (pigs_into_grazing cutting t x)
pigs-undivided housed.Outdoor x = refl
pigs-undivided housed.SlurryConventional x = refl
pigs-undivided housed.SlurryLabel x = refl
pigs-undivided housed.SlurryLabelOpen x = refl
pigs-undivided housed.DeepLitter x = refl

module _ (t : HousingType) (n tan a b : ℕ) (qn qt : Quotient) (ea : a ≡ pigs_into_grazing cutting t n)
    (eb : b ≡ pigs_into_grazing cutting t tan) (en : qn ≡ undivided a) (et : qt ≡ undivided b) where
  pub pigs-modest : WithinMostN n tan → WithinMostN qn.whole qt.whole
  pigs-modest m = rw (en, et, ea, eb) (pigs-pasture-modest t n tan m)

  pub is-pigs-grazing : (r : Rates) (g : Grazing)
      → g ≡ handed_from (record { n = qn; tan = qt }) (on_pasture dividing r (uncut qn.whole) (uncut qt.whole))
      → RatesOf pigs_rates r → g ≡ handed_grazing (pigs_grazing dividing t (uncut n) (uncut tan))
  is-pigs-grazing r g eg er = eg ∙ rw (er.is, en, et, ea, eb, pigs-undivided t n, pigs-undivided t tan) refl

pub ruleset roughage_steps = (roughage_time_within, into_roughage, is-roughage-grazing)

pub ruleset pigs_steps = (pigs-modest, is-pigs-grazing)

pub ruleset outdoor_steps = (is-outdoor-grazing)

-- The steps of a herd's sections, each in the form that a place of the code wants: what goes where is no more than
-- there is, and the sections that the code made are those of the formulas. Assumes nothing.
use Prim.Native.Nat.{ℕ, ◌+◌, ◌-◌, ◌*◌, ◌≤◌, ◌<◌, ◌^◌}
use mathlib.Core.Path.{◌≡◌, refl, ◌∙◌}
use native.Mathlib.Omega.{arith}
use Rattle.amounts.specs.Arithmetic.{cutting}
use Rattle.amounts.specs.Dividing.{dividing, uncut}
use Rattle.amounts.specs.Units.{ten_thousandths}
use Rattle.amounts.specs.Bounds.{most_n, WithinMostN, UpTo}
use Rattle.kinds.specs.declared.Outdoor.{Outdoor}
use Rattle.kinds.specs.declared.Roughage.{Roughage}
use Rattle.kinds.specs.declared.Cattle.{Cattle}
use Rattle.kinds.specs.declared.Pigs.{Pigs}
use Rattle.kinds.specs.declared.Inputs.TheVariants as kinds
use Rattle.kinds.specs.Sound.{SoundOutdoor, SoundRoughage, SoundCattle, most_grams}
use Rattle.rates.specs.declared.Rates.{Rates}
use Rattle.rates.specs.Rates.{cattle_rates}
use Rattle.rates.specs.Bounds.{RatesOf}
use Rattle.excretion.specs.declared.Excretion.{Excretion}
use Rattle.excretion.specs.Excretion.{with_tan, n_excretion_animal, roughage_fraction, cattle_fraction}
use Rattle.excretion.specs.Excretion.{handed_excretion}
use Rattle.excretion.proofs.Modest.{roughage-grams-le, roughage-fraction-le, cattle-fraction-le}
use Rattle.yard.specs.declared.Yard.{Yard}
use Rattle.yard.specs.Yard.{on_yard, no_yard, handed_yard}
use Rattle.pasture.specs.declared.Grazing.{Grazing}
use Rattle.pasture.specs.Pasture.{outdoor_grazing, roughage_grazing, pigs_into_grazing, pigs_grazing, handed_grazing}
use Rattle.pasture.proofs.Into.{
  outdoor_into_le,
  roughage_into_le,
  roughage-housing-modest,
  pigs_into_le,
  pigs-undivided,
}
use Rattle.housing.specs.declared.Housing.{Housing}
use Rattle.housing.specs.Housing.{in_housing, through_door, factors, no_factors, handed_housing}
use Rattle.pig_house.specs.declared.PigHouse.{PigHouse}
use Rattle.pig_house.specs.declared.NxOx.{NxOx}
use Rattle.pig_house.specs.PigHouse.{pig_housing, pig_house, pig_factors, kept_back, no_pig_house, no_pig_factors}
use Rattle.pig_house.specs.PigHouse.{no_scrubbed}
use Rattle.pig_house.specs.PigHouse.{handed_scrubbed, handed_pig_house}
use Rattle.pig_house.specs.NxOx.{nx_ox, no_nx_ox, handed_nx_ox}
use Rattle.pig_house.specs.Bounds.{Enters}
use Rattle.outputs.specs.declared.Sections.{Sections}
use Rattle.outputs.specs.Sections.{handed_sections}
use Rattle.herd.specs.Herd.{of_grazer_sections, roughage_on, outdoor_on, pigs_handed, sections_of}
use Rattle.herd.proofs.Housed.{pigs_enter}

-- ---- a kind whose house is none of the pigs'
pub is_plain : (e : Excretion) (y : Yard) (g : Grazing) (h : Housing) (p : PigHouse) (x : NxOx)
    → p ≡ handed_pig_house (no_pig_factors dividing) (handed_scrubbed (no_scrubbed dividing)) (no_pig_house dividing)
    → x ≡ handed_nx_ox (no_nx_ox dividing)
    → ◌≡◌ {A = Sections}
    (record { excretion = e; yard = y; grazing = g; housing = h; pig_house = p; nx_ox = x })
    (of_grazer_sections e y g h)
is_plain e y g h p x ep ex = rw (ep, ex) refl

-- ---- a herd with a yard
module _ (r : Rates) (o : Outdoor) (e : Excretion) (y : Yard) (g : Grazing)
    (qy : y ≡ handed_yard (on_yard dividing o (uncut e.n_excretion) (uncut e.tan_excretion.whole)))
    (qg : g ≡ handed_grazing
    (outdoor_grazing dividing r o (uncut e.n_excretion) (uncut e.tan_excretion.whole))) where
  module _ (s : SoundOutdoor o) where
    outdoor-n : y.into.n.whole + g.into.n.whole ≤ e.n_excretion
    outdoor-n = rw (qy, qg) (outdoor_into_le o s e.n_excretion)

    outdoor-tan : y.into.tan.whole + g.into.tan.whole ≤ e.tan_excretion.whole
    outdoor-tan = rw (qy, qg) (outdoor_into_le o s e.tan_excretion.whole)

    pub yard_in_n : y.into.n.whole ≤ e.n_excretion
    yard_in_n = omega (arith, outdoor-n)

    pub yard_in_tan : y.into.tan.whole ≤ e.tan_excretion.whole
    yard_in_tan = omega (arith, outdoor-tan)

    pub grazing_in_n : g.into.n.whole ≤ e.n_excretion - y.into.n.whole
    grazing_in_n = omega (arith, outdoor-n)

    pub grazing_in_tan : g.into.tan.whole ≤ e.tan_excretion.whole - y.into.tan.whole
    grazing_in_tan = omega (arith, outdoor-tan)

  pub is-outdoor : (n fraction : ℕ) (h : Housing) (s : Sections) → e ≡ handed_excretion (with_tan dividing n fraction)
      → h ≡ handed_housing (no_factors dividing)
      (through_door dividing (uncut (e.n_excretion - y.into.n.whole - g.into.n.whole))
      (uncut (e.tan_excretion.whole - y.into.tan.whole - g.into.tan.whole)))
      → s ≡ of_grazer_sections e y g h → s ≡ handed_sections (outdoor_on dividing r o (with_tan dividing n fraction))
  is-outdoor n fraction h s qe qh qs = qs ∙ rw (qh, qy, qg, qe) refl

pub ruleset outdoor_steps = (yard_in_n, yard_in_tan, grazing_in_n, grazing_in_tan, is-outdoor)

module _ (c : Cattle) (fraction : ℕ) (qt : fraction ≡ cattle_fraction c) where
  pub cattle-within : SoundCattle c → fraction ≤ ten_thousandths
  cattle-within s = rw qt (cattle-fraction-le c s)

  pub is-cattle : (r : Rates) (n : ℕ) (s : Sections) → RatesOf (cattle_rates c.kind) r
      → UpTo most_n (c.animals * c.inp_n_excretion) n
      → s ≡ handed_sections (outdoor_on dividing r c.outdoor (with_tan dividing n fraction))
      → s ≡ sections_of (kinds.Cattle c)
  unfolding sections_of
  is-cattle r n s er en es = es ∙ rw (er.is, en.is, qt) refl

pub ruleset cattle_steps = (cattle-within, is-cattle)

-- ---- roughage-consuming animals
module _ (r : Roughage) (e : Excretion) (g : Grazing)
    (qg : g ≡ handed_grazing
    (roughage_grazing dividing r (uncut e.n_excretion) (uncut e.tan_excretion.whole))) where
  module _ (s : SoundRoughage r) where
    pub roughage-n : g.into.n.whole ≤ e.n_excretion
    roughage-n = rw qg (roughage_into_le r s e.n_excretion)

    pub roughage-tan : g.into.tan.whole ≤ e.tan_excretion.whole
    roughage-tan = rw qg (roughage_into_le r s e.tan_excretion.whole)

    pub housed-modest : WithinMostN e.n_excretion e.tan_excretion.whole
        → WithinMostN (e.n_excretion - g.into.n.whole) (e.tan_excretion.whole - g.into.tan.whole)
    housed-modest m = rw qg (roughage-housing-modest r s e.n_excretion e.tan_excretion.whole m)

  pub is-roughage-from : (n fraction : ℕ) (y : Yard) (h : Housing) (s : Sections)
      → e ≡ handed_excretion (with_tan dividing n fraction) → y ≡ handed_yard (no_yard dividing)
      → h ≡ handed_housing (factors dividing r)
      (in_housing dividing r (uncut (e.n_excretion - g.into.n.whole))
      (uncut (e.tan_excretion.whole - g.into.tan.whole)))
      → s ≡ of_grazer_sections e y g h → s ≡ handed_sections (roughage_on dividing r (with_tan dividing n fraction))
  is-roughage-from n fraction y h s qe qy qh qs = qs ∙ rw (qh, qy, qg, qe) refl

pub ruleset roughage_from_steps = (roughage-n, roughage-tan, housed-modest, is-roughage-from)

module _ (r : Roughage) (grams fraction : ℕ)
    (qn : grams ≡ n_excretion_animal r.animalcategory r.inp_n_excretion)
    (qt : fraction ≡ roughage_fraction r) where
  pub grams-within : SoundRoughage r → grams ≤ most_grams
  grams-within s = rw qn (roughage-grams-le r s)

  pub fraction-within : SoundRoughage r → fraction ≤ ten_thousandths
  fraction-within s = rw qt (roughage-fraction-le r s)

  pub is-roughage : (n : ℕ) (s : Sections) → UpTo most_n (r.animals * grams) n
      → s ≡ handed_sections (roughage_on dividing r (with_tan dividing n fraction)) → s ≡ sections_of (kinds.Roughage r)
  unfolding sections_of
  is-roughage n s en es = es ∙ rw (en.is, qn, qt) refl

pub ruleset roughage_steps = (grams-within, fraction-within, is-roughage)

-- ---- pigs
module _ (p : Pigs) (e : Excretion) (g : Grazing)
    (qg : g ≡ handed_grazing
    (pigs_grazing dividing p.housing_type (uncut e.n_excretion) (uncut e.tan_excretion.whole))) where
  on-pasture-n : g.into.n.whole ≡ pigs_into_grazing cutting p.housing_type e.n_excretion
  on-pasture-n = rw (qg, pigs-undivided p.housing_type e.n_excretion) refl

  on-pasture-tan : g.into.tan.whole ≡ pigs_into_grazing cutting p.housing_type e.tan_excretion.whole
  on-pasture-tan = rw (qg, pigs-undivided p.housing_type e.tan_excretion.whole) refl

  pub pigs-n : g.into.n.whole ≤ e.n_excretion
  pigs-n = rw on-pasture-n (pigs_into_le p.housing_type e.n_excretion)

  pub pigs-tan : g.into.tan.whole ≤ e.tan_excretion.whole
  pigs-tan = rw on-pasture-tan (pigs_into_le p.housing_type e.tan_excretion.whole)

  module _ (m : WithinMostN e.n_excretion e.tan_excretion.whole) where
    pub pigs-housed : Enters p e.tan_excretion.whole (e.n_excretion - g.into.n.whole)
        (e.tan_excretion.whole - g.into.tan.whole)
    pigs-housed = rw (on-pasture-n, on-pasture-tan) (pigs_enter p e.n_excretion e.tan_excretion.whole m)

    pub pigs-n-fits : e.n_excretion - g.into.n.whole < 2 ^ 32
    pigs-n-fits = omega (arith, m.n_most)

  pub is-pigs-from : (n : ℕ) (y : Yard) (h : Housing) (q : PigHouse) (x : NxOx)
      → e ≡ handed_excretion (with_tan dividing n p.tan_fraction) → y ≡ handed_yard (no_yard dividing)
      → h ≡ handed_housing (no_factors dividing)
      (pig_housing dividing p (uncut e.tan_excretion.whole) (uncut (e.n_excretion - g.into.n.whole))
      (uncut (e.tan_excretion.whole - g.into.tan.whole)))
      → q ≡ handed_pig_house (pig_factors dividing p)
      (handed_scrubbed (kept_back dividing p (uncut e.tan_excretion.whole)))
      (pig_house dividing p (uncut e.tan_excretion.whole) (uncut (e.n_excretion - g.into.n.whole))
      (uncut (e.tan_excretion.whole - g.into.tan.whole)))
      → x ≡ handed_nx_ox (nx_ox dividing p.housing_type (uncut (e.n_excretion - g.into.n.whole)))
      → ◌≡◌ {A = Sections}
      (record { excretion = e; yard = y; grazing = g; housing = h; pig_house = q; nx_ox = x })
      (handed_sections (pigs_handed p (with_tan dividing n p.tan_fraction)))
  is-pigs-from n y h q x qe qy qh qq qx = rw (qh, qq, qx, qy, qg, qe) refl

pub ruleset pigs_from_steps = (pigs-n, pigs-tan, pigs-housed, pigs-n-fits, is-pigs-from)

pub is-pigs : (p : Pigs) (n : ℕ) (s : Sections) → UpTo most_n (p.animals * p.inp_n_excretion) n
    → s ≡ handed_sections (pigs_handed p (with_tan dividing n p.tan_fraction)) → s ≡ sections_of (kinds.Pigs p)
unfolding sections_of
is-pigs p n s en es = es ∙ rw en.is refl

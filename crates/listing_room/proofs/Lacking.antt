-- The names under which a herd has nothing, kind by kind: no N2 comes from pasture, and pigs are outdoors, on slurry or
-- on litter. Assumes nothing.
use Prim.Native.Nat.{ℕ, ◌-◌}
use Prim.Native.String.{String}
use mathlib.Core.Path.{◌≡◌, refl}
use mathlib.Core.List.{List}
use native.Mathlib.Nat.{mul-zero, zero-mul}
use native.Mathlib.Omega.{arith}
use Rattle.amounts.specs.Arithmetic.{cutting}
use Rattle.inputs.specs.declared.Kind.{Kind}
use Rattle.inputs.specs.declared.Kind.TheVariants as kind
use Rattle.farm.specs.declared.Herd.{Herd}
use Rattle.kinds.specs.declared.HousingType.{HousingType}
use Rattle.kinds.specs.declared.HousingType.TheVariants as housed
use Rattle.kinds.specs.declared.CattleKind.{CattleKind}
use Rattle.kinds.specs.declared.CattleKind.TheVariants.{OtherCattle, DairyCow}
use Rattle.kinds.specs.declared.Cattle.{Cattle}
use Rattle.kinds.specs.declared.Pigs.{Pigs}
use Rattle.rates.specs.Rates.{cattle_rates}
use Rattle.excretion.specs.Excretion.{ExcretionIn}
use Rattle.yard.specs.Yard.{no_yard}
use Rattle.pasture.specs.Pasture.{GrazingIn, pigs_into_grazing}
use Rattle.housing.specs.Housing.{HousingIn, through_door, no_factors}
use Rattle.pig_house.specs.PigHouse.{PigFactorsIn, ScrubbedIn, through_pig_house, in_fractions, nh3_in_pig_house}
use Rattle.pig_house.specs.PigHouse.{tan_air_scrubber}
use Rattle.pig_house.specs.NxOx.{nx_ox}
use Rattle.typed_inputs.specs.Typed.{cattle_of, pigs_of, typed_as}
use Rattle.outputs.specs.Sections.{FiguresIn}
use Rattle.herd.specs.Herd.{of_cattle, of_pigs, figures_in}
use Rattle.listing_room.specs.Bounds.{no_n2, outdoors, on_slurry, on_litter}
use Rattle.listing_room.proofs.Lengths.{Lacks}
use Rattle.listing_room.proofs.Amounts.{HasNothing}

pub record Lacking (k : Kind) (f : FiguresIn cutting) : Type 0 where
  pub names : List String
  pub lacks : Lacks k names
  pub has-nothing : HasNothing names f

-- ---- pigs outdoors: all goes onto pasture, and nothing into the house

sub_self : (n : ℕ) → n - n ≡ 0
sub_self n = omega arith

none_in : (t : HousingType) → t ≡ housed.Outdoor → (x : ℕ) → x - pigs_into_grazing cutting t x ≡ 0
none_in t e x = rw e (sub_self x)

no-nh3 : (p : Pigs) (tan : ℕ) → tan ≡ 0 → nh3_in_pig_house cutting p tan ≡ 0
no-nh3 p tan e = rw (e, zero-mul)

none-through : (n tan nh3 kept : ℕ) → n ≡ 0 → tan ≡ 0 → nh3 ≡ 0
    → through_pig_house cutting n tan nh3 kept ≡ through_door cutting 0 0
none-through n tan nh3 kept en et eh =
    let a : n - nh3 - kept ≡ 0 = omega arith in
    let b : tan - nh3 - kept ≡ 0 = omega arith in
    rw (a, b, en, et, eh)

module _ (t : HousingType) (out : t ≡ housed.Outdoor) (e : ExcretionIn cutting) (g : GrazingIn cutting)
    (f : PigFactorsIn cutting) (s : ScrubbedIn cutting) (kept : ℕ) where
  abbrev with_house : HousingIn cutting → ℕ → FiguresIn cutting
  with_house h n =
      record {
        excretion = e;
        yard = no_yard cutting;
        grazing = g;
        housing = h;
        pig_house = in_fractions cutting t kept h.n_outhousing h.tan_outhousing;
        nx_ox = nx_ox cutting t n;
        factors = no_factors cutting;
        pig_factors = f;
        scrubbed = s;
      }

  none-housed : g.n2_ngrazing ≡ 0 → (h : HousingIn cutting) → h ≡ through_door cutting 0 0 → (n : ℕ) → n ≡ 0
      → HasNothing outdoors (with_house h n)
  none-housed n2 h eh n en = record { is-blank = rw (eh, en, out, n2) }

outdoor-pigs : (p : Pigs) → p.housing_type ≡ housed.Outdoor → HasNothing outdoors (of_pigs cutting p)
outdoor-pigs p out =
    none-housed p.housing_type out f.excretion f.grazing f.pig_factors f.scrubbed kept (rw mul-zero)
    f.housing
    (none-through n tan (nh3_in_pig_house cutting p tan) kept en et (no-nh3 p tan et)) n en
  where
    f : FiguresIn cutting
    f = of_pigs cutting p

    n : ℕ
    n = f.housing.n_into_housing

    tan : ℕ
    tan = f.housing.tan_into_housing

    kept : ℕ
    kept = tan_air_scrubber cutting p f.excretion.tan_excretion

    en : n ≡ 0
    en = none_in p.housing_type out f.excretion.n_excretion

    et : tan ≡ 0
    et = none_in p.housing_type out f.excretion.tan_excretion

-- ---- cattle

no_n2-rate : (k : CattleKind) → (cattle_rates k).n2 ≡ 0
no_n2-rate OtherCattle = refl
no_n2-rate DairyCow = refl

no_n2_lem : (c : Cattle) → HasNothing no_n2 (of_cattle cutting c)
no_n2_lem c = record { is-blank = rw (no_n2-rate c.kind, mul-zero) }

-- ---- every kind

pigs-lacking : (p : Pigs) (t : HousingType) → p.housing_type ≡ t → Lacking kind.Pigs (of_pigs cutting p)
pigs-lacking p housed.Outdoor e =
    record { names = outdoors; lacks = Lacks.pigs-outdoors; has-nothing = outdoor-pigs p e }
pigs-lacking p housed.SlurryConventional e =
    record { names = on_slurry; lacks = Lacks.pigs-on_slurry; has-nothing = record { is-blank = simp (e, sub_self) } }
pigs-lacking p housed.SlurryLabel e =
    record { names = on_slurry; lacks = Lacks.pigs-on_slurry; has-nothing = record { is-blank = simp (e, sub_self) } }
pigs-lacking p housed.SlurryLabelOpen e =
    record { names = on_slurry; lacks = Lacks.pigs-on_slurry; has-nothing = record { is-blank = simp (e, sub_self) } }
pigs-lacking p housed.DeepLitter e =
    record { names = on_litter; lacks = Lacks.pigs-on_litter; has-nothing = record { is-blank = rw e } }

pub lacking : (k : Kind) (h : Herd) → Lacking k (figures_in cutting (typed_as k h))
lacking kind.Roughage h =
    record { names = no_n2; lacks = Lacks.roughage; has-nothing = record { is-blank = rw mul-zero } }
lacking kind.Cattle h =
    record { names = no_n2; lacks = Lacks.cattle; has-nothing = no_n2_lem (cattle_of OtherCattle h) }
lacking kind.DairyCow h =
    record { names = no_n2; lacks = Lacks.dairy_cows_lem; has-nothing = no_n2_lem (cattle_of DairyCow h) }
lacking kind.Pigs h = pigs-lacking (pigs_of h) (pigs_of h).housing_type refl

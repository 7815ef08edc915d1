-- What goes into a pig house: all that the herd excretes, and outdoors nothing. Assumes nothing.
use mathlib.Core.Path.{◌≡◌, sym, subst}
use Prim.Native.Nat.{ℕ, ◌-◌}
use native.Mathlib.Omega.{arith}
use Rattle.amounts.specs.Arithmetic.{cutting}
use Rattle.amounts.specs.Bounds.{WithinMostN}
use Rattle.kinds.specs.declared.HousingType.{HousingType}
use Rattle.kinds.specs.declared.HousingType.TheVariants as housed
use Rattle.kinds.specs.declared.Pigs.{Pigs}
use Rattle.pasture.specs.Pasture.{pigs_into_grazing}
use Rattle.pig_house.specs.Bounds.{Housed, indoors, outdoors, Enters}

none-less : (x : ℕ) → x - 0 ≡ x
none-less x = omega arith

-- by the type
abbrev left : HousingType → ℕ → ℕ
left t x = x - pigs_into_grazing cutting t x

all_in : (t : HousingType) (x : ℕ) → left t x ≡ x → Housed t x (left t x)
all_in t x e = subst (λ (y : ℕ). Housed t x y) (sym e) indoors

enters_house : (t : HousingType) (x : ℕ) → Housed t x (left t x)
enters_house housed.SlurryConventional x = all_in housed.SlurryConventional x (none-less x)
enters_house housed.SlurryLabel x = all_in housed.SlurryLabel x (none-less x)
enters_house housed.SlurryLabelOpen x = all_in housed.SlurryLabelOpen x (none-less x)
enters_house housed.DeepLitter x = all_in housed.DeepLitter x (none-less x)
enters_house housed.Outdoor x =
    let none : x - x ≡ 0 = omega arith in
    subst (λ (y : ℕ). Housed housed.Outdoor x y) (sym none) outdoors

-- the TAN stays no more than the N
left-modest : (t : HousingType) (n tan : ℕ) → WithinMostN n tan → WithinMostN (left t n) (left t tan)
left-modest housed.SlurryConventional n tan m = record { n_most = omega arith; tan_most = omega arith }
left-modest housed.SlurryLabel n tan m = record { n_most = omega arith; tan_most = omega arith }
left-modest housed.SlurryLabelOpen n tan m = record { n_most = omega arith; tan_most = omega arith }
left-modest housed.DeepLitter n tan m = record { n_most = omega arith; tan_most = omega arith }
left-modest housed.Outdoor n tan m = record { n_most = omega arith; tan_most = omega arith }

pub pigs_enter : (p : Pigs) (n tan : ℕ) → WithinMostN n tan
    → Enters p tan (n - pigs_into_grazing cutting p.housing_type n)
    (tan - pigs_into_grazing cutting p.housing_type tan)
pigs_enter p n tan m =
    record {
      modest = left-modest p.housing_type n tan m;
      excreted_most = omega arith;
      housed = enters_house p.housing_type tan;
    }

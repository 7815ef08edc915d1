-- The totals of every list of figures keep 2.1's equations. Assumes nothing.
use Prim.Native.String.{String}
use mathlib.Core.Path.{◌≡◌, sym, ap}
use mathlib.Core.List.{List}
use lib.IntN.{ℤ, pos, ◌+ℤ◌, +ℤ_idl}
use Rattle.cut_division.specs.Total.{signed_total}
use Rattle.outputs.specs.declared.Figures.{Figures}
use Rattle.outputs.specs.Grams.{figure, by_number, farm_total, totals_of}
use Rattle.outputs.specs.Equations.{sums, Adds}
use Rattle.outputs.proofs.Alone.{totals-alone}

-- one more addend
plus_one : (x y : ℤ) → x +ℤ y ≡ x +ℤ (pos 0 +ℤ y)
plus_one x y = ap (x +ℤ◌) (sym (+ℤ_idl y))

module _ (l : List Figures) where
  abbrev nh3 : String → ℤ
  nh3 t = signed_total (figure t) l

  pub totals-add : Adds l (totals_of l)
  unfolding totals_of farm_total by_number
  totals-add =
      record {
        summed = totals-alone l sums tt;
        housing_and_yard = plus_one (pos 0 +ℤ nh3 "nh3_nhousing") (nh3 "nh3_nyard");
        livestock = plus_one (pos 0 +ℤ nh3 "nh3_nhousing" +ℤ nh3 "nh3_nyard") (nh3 "nh3_ngrazing");
      }

-- How long a herd's amounts are: at most as long as 2000000.000, a minus more where less than nothing may remain, and
-- as long as 0.000 under the names under which the herd has nothing. Assumes nothing.
use Prim.Native.Nat.{ℕ, zero, suc, ◌+◌, ◌≤◌}
use Prim.Native.String.{String}
use mathlib.Core.Path.{◌≡◌, subst}
use mathlib.Core.Bool.{Bool, true, false}
use mathlib.Core.List.{List, [], ◌∷◌}
use native.Mathlib.Omega.{arith}
use lib.Dec.{leb→le}
use lib.ListN.{length, get_or}
use lib.IntN.{ℤ, pos, nat_abs}
use Rattle.base.specs.Pick.{pick}
use Rattle.decimal.specs.Writing.{width, whole_of}
use Rattle.kilogram_text.specs.Kilograms.{thousandths_of, sign, kilograms_of}
use Rattle.kilogram_text.proofs.Lengths.{kilograms-within}
use Rattle.kilogram_text.proofs.Signs.{sign-short}
use Rattle.amounts.specs.Arithmetic.{cutting}
use Rattle.outputs.specs.Sections.{FiguresIn}
use Rattle.outputs.specs.Names.{texts}
use Rattle.outputs.specs.Grams.{grams_at, grams_of, GramsTo}
use Rattle.herd.proofs.Bounds.{most}
use Rattle.listing_room.specs.Bounds.{longest_amount, nothing, among, amount_rooms}
use Rattle.listing_room.proofs.Lengths.{Short}

-- ---- an amount

amount-short : {x : ℕ} → x ≤ most → length (kilograms_of (pos x)) ≤ longest_amount
unfolding sign
amount-short {x} h = omega (arith, kilograms-within 6 (pos x) (omega arith))

rest-short : (z : ℤ) → nat_abs z ≤ most → length (kilograms_of z) ≤ longest_amount + 1
rest-short z h = omega (arith, kilograms-within 6 z (omega arith), sign-short z)

-- nothing in the place of an amount
none-short : (b : Bool) (z : ℤ) {room : ℕ} → length (kilograms_of z) ≤ room
    → length (kilograms_of (pick b (pos 0) z)) ≤ pick b nothing room
unfolding kilograms_of sign thousandths_of whole_of width
none-short true z h = leb→le _ _ tt
none-short false z h = h

-- ---- amounts by number, none longer than its room

data Shorts : List ℕ → List ℤ → Type 0 where
  end : Shorts [] []
  next : {w : ℕ} {ws : List ℕ} {z : ℤ} {g : List ℤ} → length (kilograms_of z) ≤ w → Shorts ws g
      → Shorts (w ∷ ws) (z ∷ g)

short-at : {ws : List ℕ} {g : List ℤ} → Shorts ws g → (n : ℕ)
    → length (kilograms_of (grams_at g n)) ≤ get_or ws n nothing
unfolding kilograms_of sign thousandths_of whole_of width
short-at end n = leb→le _ _ tt
short-at (next h s) zero = h
short-at (next h s) (suc n) = short-at s n

-- ---- a herd's

-- the grams g of the names ts, with nothing under the names without
abbrev blank : List String → List String → List ℤ → List ℤ
blank without [] g = []
blank without (t ∷ ts) [] = []
blank without (t ∷ ts) (z ∷ g) = pick (among without t) (pos 0) z ∷ blank without ts g

-- such figures have nothing under these names
pub record HasNothing (without : List String) (f : FiguresIn cutting) : Type 0 where
  pub is-blank : blank without texts (grams_of f) ≡ grams_of f

module _ (without : List String) where
  amount : (t : String) {x : ℕ} → x ≤ most
      → length (kilograms_of (pick (among without t) (pos 0) (pos x))) ≤ pick (among without t) nothing longest_amount
  amount t {x} h = none-short (among without t) (pos x) (amount-short h)

  rest : (t : String) (z : ℤ) → nat_abs z ≤ most
      → length (kilograms_of (pick (among without t) (pos 0) z)) ≤ pick (among without t) nothing (longest_amount + 1)
  rest t z h = none-short (among without t) z (rest-short z h)

  shorts : (f : FiguresIn cutting) → GramsTo most (grams_of f)
      → Shorts (amount_rooms without) (blank without texts (grams_of f))
  shorts f to =
      next (amount "n_excretion" (to.most 0))
      (next (amount "tan_excretion" (to.most 1))
      (next (amount "n_into_yard" (to.most 2))
      (next (amount "tan_into_yard" (to.most 3))
      (next (amount "nh3_nyard" (to.most 4))
      (next (amount "n_outyard_liquid" (to.most 5))
      (next (amount "tan_outyard_liquid" (to.most 6))
      (next (amount "n_into_grazing" (to.most 7))
      (next (amount "tan_into_grazing" (to.most 8))
      (next (amount "nh3_ngrazing" (to.most 9))
      (next (amount "n2_ngrazing" (to.most 10))
      (next (amount "no_ngrazing" (to.most 11))
      (next (amount "n2o_ngrazing" (to.most 12))
      (next (amount "n_remain_grazing" (to.most 13))
      (next (rest "tan_remain_grazing" f.grazing.tan_remain_grazing (to.most 14))
      (next (amount "n_into_housing" (to.most 15))
      (next (amount "tan_into_housing" (to.most 16))
      (next (amount "nh3_nhousing" (to.most 17))
      (next (amount "n_outhousing" (to.most 18))
      (next (amount "tan_outhousing" (to.most 19))
      (next (amount "tan_air_scrubber" (to.most 20))
      (next (amount "n_outhousing_liquid" (to.most 21))
      (next (amount "tan_outhousing_liquid" (to.most 22))
      (next (amount "n_outhousing_solid" (to.most 23))
      (next (amount "tan_outhousing_solid" (to.most 24))
      (next (amount "n2_nsolid" (to.most 25))
      (next (amount "no_nsolid" (to.most 26))
      (next (amount "n2o_nsolid" (to.most 27))
      (next (amount "n2_nliquid" (to.most 28))
      (next (amount "no_nliquid" (to.most 29))
      (next (amount "n2o_nliquid" (to.most 30)) end))))))))))))))))))))))))))))))

pub amounts_short : {without : List String} {f : FiguresIn cutting} → HasNothing without f → GramsTo most (grams_of f)
    → Short without (grams_of f)
amounts_short {without} {f} none to =
    record { amount = short-at (subst (Shorts (amount_rooms without)) none.is-blank (shorts without f to)) }

-- A portion of an amount, and the rest of it: what the code's cut division needs, and that the TAN stays no more than
-- the N. Assumes nothing.
use mathlib.Core.Path.{◌≡◌, refl, ◌∙◌}
use mathlib.Core.Bool.{Bool, true, false, cond}
use Prim.Native.Nat.{ℕ, ◌+◌, ◌-◌, ◌*◌, ◌/◌, ◌≤◌, ◌<◌, ◌^◌, min}
use native.Mathlib.Nat.{mul-le-mul_left, le_refl, le_trans, add-mul-div_right, div-le_of_le-mul}
use native.Mathlib.Omega.{arith}
use lib.Dec.{ltb}
use borrow.Author.Tests.{ltb-true, ltb-false}
use mir.Syntax.{w64}
use mir.Val.{Fits}
use Rattle.cut_division.specs.declared.Quotient.{Quotient}
use Rattle.cut_division.specs.Cut.{quotient_of, least}
use Rattle.cut_division.proofs.Products.{mul-fits}
use Rattle.cut_division.proofs.Shares.{cut_mono, part-le, part_mono}
use Rattle.amounts.specs.Units.{billionths}
use Rattle.amounts.specs.Arithmetic.{cutting}
use Rattle.amounts.specs.Portion.{portion}
use Rattle.amounts.specs.declared.Parts.{Parts}
use Rattle.amounts.specs.Bounds.{
  FitsPortion,
  PortionOf,
  FitsPortionTwice,
  PortionToTwice,
  PortionsOf,
  WithinMostN,
  UpTo,
}

-- ---- the code's step

module _ (amount shares of : ℕ) (fit : FitsPortion amount shares of) where
  pub product_fits : Fits w64 (amount * shares)
  product_fits = mul-fits (2 ^ 32) billionths tt (omega arith) (omega arith)

  pub is-portion : (q : Quotient) → q ≡ quotient_of (amount * shares) of → PortionOf amount shares of q
  is-portion q e = record { cut = e; is = rw e refl; most = rw e (part-le amount shares of fit.within) }

pub ruleset portion_steps = (product_fits, is-portion)

-- the same of up to twice the shares
module _ (amount shares of : ℕ) (fit : FitsPortionTwice amount shares of) where
  pub twice-fits : Fits w64 (amount * shares)
  twice-fits = mul-fits (2 ^ 32) (billionths + billionths) tt (omega arith) (omega arith)

  pub is-twice : (q : Quotient) → q ≡ quotient_of (amount * shares) of → PortionToTwice amount shares of q
  is-twice q e =
      record { cut = e; most = rw e (div-le_of_le-mul of (omega (arith, mul-le-mul_left amount fit.within))) }

pub ruleset twice_steps = (twice-fits, is-twice)

-- ---- of shares that the code has found

module _ (shares of found m : ℕ) (u : UpTo m shares found) where
  pub portion-by : (amount : ℕ) (q : Quotient) → PortionOf amount found of q → PortionOf amount shares of q
  portion-by amount q p = rw (← u.is) p

  pub portions_by : (n tan : ℕ) (r : Parts) → PortionsOf n tan found of r → PortionsOf n tan shares of r
  portions_by n tan r p = rw (← u.is) p

pub ruleset shares_found = (portion-by, portions_by)

-- ---- a larger amount has no smaller portion

pub portion-grows : (x y shares of : ℕ) → x ≤ y → portion cutting x shares of ≤ portion cutting y shares of
portion-grows x y shares of h = part_mono of {x = x} {y = y} {m = shares} {n = shares} h (le_refl shares)

-- ---- the same portion of the N and of the TAN in it

module _ (n tan shares of : ℕ) (m : WithinMostN n tan) where
  tan_in-n : portion cutting tan shares of ≤ portion cutting n shares of
  tan_in-n = portion-grows tan n shares of m.tan_most

  pub modest-share : shares ≤ of → WithinMostN (portion cutting n shares of) (portion cutting tan shares of)
  modest-share h = record { n_most = le_trans (part-le n shares of h) m.n_most; tan_most = tan_in-n }

  -- of two portions that the code has made
  pub modest-portion : (a b : Quotient) → PortionOf n shares of a → PortionOf tan shares of b
      → WithinMostN a.whole b.whole
  modest-portion a b p q = record { n_most = omega arith; tan_most = omega (arith, tan_in-n) }

pub ruleset portions_steps = (modest-portion)

-- ---- a ceiling: the smaller of the two, as the code's `min` finds it

pub least-min : (a b : ℕ) → min a b ≡ least a b
least-min a b = go (ltb b a) refl
  where
    go : (t : Bool) → ltb b a ≡ t → min a b ≡ cond t b a
    go true e = omega (arith, ltb-true b a e)
    go false e = omega (arith, ltb-false b a e)

pub up_to_ceiling : (a b r : ℕ) → r ≡ min a b → UpTo b (least a b) r
up_to_ceiling a b r e = record { is = e ∙ least-min a b; most = omega arith }

-- ---- nor a smaller rest: by no more than it grew has its portion grown

grows-by : (x e shares of : ℕ) → 0 < of → shares ≤ of → (x + e) * shares / of ≤ x * shares / of + e
grows-by x e shares of h k =
    let c : (x + e) * shares / of ≤ (x * shares + e * of) / of = cut_mono of (omega (arith, mul-le-mul_left e k)) in
    omega (arith, add-mul-div_right (x * shares) e h)

pub rest-grows : (x y shares of : ℕ) → 0 < of → shares ≤ of → x ≤ y
    → x - portion cutting x shares of ≤ y - portion cutting y shares of
rest-grows x y shares of h k l =
    let e : x + (y - x) ≡ y = omega arith in
    let g : y * shares / of ≤ x * shares / of + (y - x) = rw e at (grows-by x (y - x) shares of h k) in
    omega arith

pub modest-rest : (n tan shares of : ℕ) → WithinMostN n tan → 0 < of → shares ≤ of
    → WithinMostN (n - portion cutting n shares of) (tan - portion cutting tan shares of)
modest-rest n tan shares of m h k =
    record { n_most = omega (arith, m.n_most); tan_most = rest-grows tan n shares of h k m.tan_most }

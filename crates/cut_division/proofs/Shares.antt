-- Cut quotients and cut shares x * n / d: they grow with what is cut, and together they take no more than the whole.
-- Assumes nothing.
use Prim.Native.Nat.{ℕ, zero, suc, ◌+◌, ◌*◌, ◌/◌, ◌≤◌, ◌<◌}
use mathlib.Core.Path.{◌≡◌, refl}
use mathlib.Core.Bool.{Bool, true, false, cond}
use native.Mathlib.Nat.{
  mul-le-mul_left,
  mul-le-mul_right,
  mul-le-mul,
  mul-pos,
  le_trans,
  le_of_mul-le-mul_right,
  le-div_iff_mul-le,
  div-le_of_le-mul,
  div-mul-le_self,
  div-zero,
}
use native.Mathlib.Omega.{arith}
use borrow.Author.Tests.{ltb-true, ltb-false}
use lib.Dec.{ltb}
use Rattle.cut_division.specs.Cut.{least}

-- ---- quotients

-- what times the divisor is at most the dividend is at most the quotient
pub cut_greatest : (d : ℕ) {y a : ℕ} → 0 < d → y * d ≤ a → y ≤ a / d
cut_greatest d hd h = (le-div_iff_mul-le hd).1 h

pub cut_mono : (d : ℕ) {a b : ℕ} → a ≤ b → a / d ≤ b / d
cut_mono zero {a} {b} h = rw (div-zero a, div-zero b) (omega arith)
cut_mono (suc d) {a} {b} h = cut_greatest (suc d) (omega arith) (le_trans (div-mul-le_self a (suc d)) h)

-- ---- shares of one whole

-- a share of at most 1
pub part-le : (x n d : ℕ) → n ≤ d → x * n / d ≤ x
part-le x n d h = div-le_of_le-mul d (omega (arith, mul-le-mul_left x h))

-- more of the whole, or a larger share of it, never gives less
pub part_mono : (d : ℕ) {x y m n : ℕ} → x ≤ y → m ≤ n → x * m / d ≤ y * n / d
part_mono d hx hn = cut_mono d (mul-le-mul hx hn)

-- two shares that are together at most 1, over two divisors
pub parts-over-le : (x m n d e : ℕ) → 0 < d → 0 < e → m * e + n * d ≤ d * e → x * m / d + x * n / e ≤ x
parts-over-le x m n d e hd he h = go (x * m / d) (x * n / e) (div-mul-le_self (x * m) d) (div-mul-le_self (x * n) e)
  where
    go : (a b : ℕ) → a * d ≤ x * m → b * e ≤ x * n → a + b ≤ x
    go a b ha hb =
        le_of_mul-le-mul_right {k = d * e}
        (omega (arith, mul-le-mul_right e ha, mul-le-mul_right d hb, mul-le-mul_left x h))
        (mul-pos hd he)

-- ---- a ceiling

least_by : (a n : ℕ) (t : Bool) → ltb n a ≡ t → (cond t n a ≤ a) × (cond t n a ≤ n)
least_by a n true e = let h = ltb-true n a e in (omega arith, omega arith)
least_by a n false e = let h = ltb-false n a e in (omega arith, omega arith)

pub least-le : (a n : ℕ) → least a n ≤ a
least-le a n = (least_by a n (ltb n a) refl).0

pub least-most : (a n : ℕ) → least a n ≤ n
least-most a n = (least_by a n (ltb n a) refl).1

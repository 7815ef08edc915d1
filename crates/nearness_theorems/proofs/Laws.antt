-- How near `cutting` is to `exact` in the steps that every formula is made of: a portion of an amount, and k. (The
-- others, a difference, a ceiling and a product, have their laws in crate `cut_division`.) Assumes nothing.
use mathlib.Core.Path.{◌≡◌, refl}
use Prim.Native.Nat.{ℕ, zero, suc, ◌+◌, ◌-◌, ◌*◌, ◌/◌, ◌≤◌, ◌<◌, zero-le}
use native.Mathlib.Nat.{mul-one, one-mul, mul-zero, zero-mul, zero-div, mul-pos, mul-le-mul_left, lt-div-mul-add}
use native.Mathlib.Omega.{arith}
use lib.IntN.{ℤ, pos, negsuc, ◌*ℤ◌}
use Rattle.cut_division.specs.Frac.{Frac, per, whole, ◌⊗◌}
use Rattle.cut_division.proofs.Near.{
  Near,
  near-whole,
  near_weaken,
  near-part,
  near-cut-to,
  near-nearest,
  near_same,
  near_shares2,
}
use Rattle.tables.specs.Growth.{k_of, growth_num, growth_den}
use Rattle.tables.proofs.Growth.{k-nearest, growth_den-above}
use Rattle.amounts.specs.Units.{day, billionths}
use Rattle.amounts.specs.Arithmetic.{cutting}
use Rattle.amounts.specs.Portion.{portion}
use Rattle.nearness_theorems.specs.Errors.{Errors}
use Rattle.nearness_theorems.specs.Exact.{exact}

-- as near as the table of errors says
abbrev pub NearBy : Errors → ℤ → Frac → Type 0
NearBy e x q = Near e.below e.above x q

-- ---- a portion of an amount

-- the share n / d of q, as a portion
apart : (q : Frac) (n d : ℕ) {lo hi : ℕ} {x : ℤ} → Near lo hi x (q ⊗ per n d) → Near lo hi x (portion exact q n d)
apart q n d {lo} {hi} {x} h = near_shares2 q n 1 1 d (rw (mul-one, one-mul) h)

-- at most the whole amount: one more gram may be missing
pub near-share : (n d : ℕ) {lo hi x : ℕ} {q : Frac} → 0 < d → n ≤ d
    → Near lo hi (pos x) q → Near (lo + 1000000) hi (pos (portion cutting x n d)) (portion exact q n d)
near-share n d {q} hd h near = apart q n d (near-part n d hd h near)

-- up to twice the amount: the errors double too
pub near-twice : (n d : ℕ) {lo hi x : ℕ} {q : Frac} → 0 < d → n ≤ d + d
    → Near lo hi (pos x) q → Near (lo + lo + 1000000) (hi + hi) (pos (portion cutting x n d)) (portion exact q n d)
near-twice n d {lo} {hi} {q} hd h near =
    apart q n d
    (near-cut-to (lo + lo + 1000000) (hi + hi) n d hd
    (omega (arith, mul-le-mul_left lo h)) (omega (arith, mul-le-mul_left hi h)) near)

-- by a rate in numerals the errors shrink, and compute

-- division rounded up
abbrev pub cut_up : ℕ → ℕ → ℕ
cut_up a d = (a + (d - 1)) / d

up-enough : (a d : ℕ) → 0 < d → a ≤ cut_up a d * d
up-enough a d hd = omega (arith, lt-div-mul-add {a = a + (d - 1)} hd)

-- at rate 0 nothing is cut
abbrev pub rate_below : ℕ → ℕ → ℕ → ℕ
rate_below lo zero d = 0
rate_below lo (suc n) d = cut_up (lo * suc n) d + 1000000

abbrev pub rate_above : ℕ → ℕ → ℕ → ℕ
rate_above hi n d = cut_up (hi * n) d

none_of : (z : ℤ) → z *ℤ pos 0 ≡ pos 0
none_of (pos n) = rw mul-zero
none_of (negsuc n) = rw mul-zero

near_none : (d : ℕ) {lo hi : ℕ} {x : ℕ} {q : Frac} → 0 < d → Near lo hi (pos x) q
    → Near 0 0 (pos (portion cutting x 0 d)) (portion exact q 0 d)
near_none d {x} {q} hd near =
    rw (mul-zero x, zero-div d)
    (near_same {q = whole 0} (mul-pos (mul-pos near.above (omega arith)) hd) (rw (none_of q.num, zero-mul))
    (near-whole 0))

pub near-rate : (n d : ℕ) {lo hi x : ℕ} {q : Frac} → 0 < d
    → Near lo hi (pos x) q
    → Near (rate_below lo n d) (rate_above hi n d) (pos (portion cutting x n d)) (portion exact q n d)
near-rate zero d hd near = near_weaken zero-le zero-le (near_none d hd near)
near-rate (suc n) d {lo} {hi} {q} hd near =
    apart q (suc n) d
    (near-cut-to (rate_below lo (suc n) d) (rate_above hi (suc n) d) (suc n) d hd
    (omega (arith, up-enough (lo * suc n) d hd)) (up-enough (hi * suc n) d hd) near)

-- ---- k: the table's entry is within half a billionth

pub near-k : (t : ℕ) → t ≤ day → Near 500000 500000 (pos (cutting.k t)) (exact.k t)
near-k t h =
    let k = k-nearest {t = t} {k = k_of t} refl h in
    near-nearest (k_of t) (billionths * growth_num t) growth_den growth_den-above (omega (arith, k.low))
    (omega (arith, k.high))

-- Factors of which nothing is cut off: they are multiples of a unit, and each division of their formulas leaves nothing
-- over. An amount times such a factor is cut once, as a portion is. Assumes nothing.
use mathlib.Core.Path.{◌≡◌, refl, sym, ap, subst, ◌∙◌}
use mathlib.Core.Bool.{Bool, true, false, cond}
use Prim.Native.Nat.{ℕ, ◌+◌, ◌*◌, ◌/◌, ◌≤◌, ◌<◌}
use native.Mathlib.Nat.{
  mul-one,
  mul_comm,
  mul_assoc,
  mul-pos,
  mul-le-mul_left,
  div-eq_of_eq-mul_left,
  mul-div-mul_right,
}
use native.Mathlib.Omega.{arith}
use lib.Dec.{ltb}
use lib.IntN.{ℤ, pos, negsuc, *ℤ_comm}
use Rattle.cut_division.specs.Cut.{least}
use Rattle.cut_division.specs.Frac.{Frac, per, whole, ◌⊗◌, ◌at_most◌}
use Rattle.cut_division.proofs.Signed.{up, dn}
use Rattle.cut_division.proofs.Near.{Below, Near, near-whole, near-part, near-at-most, near_shares2}
use Rattle.amounts.specs.Arithmetic.{cutting}
use Rattle.amounts.specs.Portion.{portion}
use Rattle.nearness_theorems.specs.Exact.{exact}

-- ---- x is q exactly

abbrev pub Is : ℕ → Frac → Type 0
Is x q = Near 0 0 (pos x) q

is-num : (z : ℤ) (x D : ℕ) → Below (up z) (dn z) x 0 D 0 → Below (dn z) (up z) 0 x D 0 → z ≡ pos (x * D)
is-num (pos n) x D low high = ap pos (omega arith)
is-num (negsuc n) x D low high = absurd (omega arith)

is-per : {x : ℕ} {q : Frac} → Is x q → q ≡ per (x * q.den) q.den
is-per {x} {q} h = ap (λ (z : ℤ). record { num = z; den = q.den }) (is-num q.num x q.den h.low h.high)

-- an amount times a factor that is exact: one more gram may be missing
by-factor : (x f d D : ℕ) {lo hi : ℕ} {q : Frac} → 0 < d → 0 < D → f ≤ d
    → Near lo hi (pos x) q → Near (lo + 1000000) hi (pos (x * f / d)) (q ⊗ per (f * D) D ⊗ per 1 d)
by-factor x f d D {lo} {hi} {q} hd h_d h near =
    subst (λ (y : ℕ). Near (lo + 1000000) hi (pos y) (q ⊗ per (f * D) D ⊗ per 1 d)) cancelled
    (near_shares2 q (f * D) D 1 d
    (near-part (f * D * 1) (D * d) (mul-pos h_d hd) (omega (arith, mul-le-mul_left D h)) near))
  where
    cancelled : x * (f * D * 1) / (D * d) ≡ x * f / d
    cancelled = rw (mul-one (f * D), mul_comm D d, ← mul_assoc x f D) (mul-div-mul_right (x * f) d h_d)

pub near_by : (d : ℕ) {lo hi x f : ℕ} {q r : Frac} → 0 < d → f ≤ d → Near lo hi (pos x) q → Is f r
    → Near (lo + 1000000) hi (pos (x * f / d)) (q ⊗ r ⊗ per 1 d)
near_by d {lo} {hi} {x} {f} {q} {r} hd h near is =
    rw (is-per is) (by-factor x f d r.den hd is.above h near)

-- the factor may stand first
pub near-by-first : (d : ℕ) {lo hi x f : ℕ} {q r : Frac} → 0 < d → f ≤ d → Near lo hi (pos x) q → Is f r
    → Near (lo + 1000000) hi (pos (f * x / d)) (r ⊗ q ⊗ per 1 d)
near-by-first d {x} {f} {q} {r} hd h near is =
    rw (*ℤ_comm r.num q.num, mul_comm r.den q.den, mul_comm f x) (near_by d hd h near is)

-- ---- and a multiple of u

pub record Exactly (u x : ℕ) (q : Frac) : Type 0 where
  pub times : ℕ
  pub multiple : x ≡ times * u
  pub is : Is x q

pub exactly-whole : (u k x : ℕ) → x ≡ k * u → Exactly u x (whole x)
exactly-whole u k x e = record { times = k; multiple = e; is = near-whole x }

-- nothing is cut off
is-portion : (x n d D y : ℕ) → 0 < d → 0 < D → y * d ≡ x * n → Is y (per (x * D * n * 1) (D * 1 * d))
is-portion x n d D y hd h_d e =
    let k : y * d * D ≡ x * n * D = ap (λ (a : ℕ). a * D) e in
    record { above = mul-pos (mul-pos h_d (omega arith)) hd; low = omega arith; high = omega arith }

pub exactly-portion : (u n d : ℕ) {x : ℕ} {q : Frac} → 0 < d → Exactly (u * d) x q
    → Exactly u (portion cutting x n d) (portion exact q n d)
exactly-portion u n d {x} {q} hd h =
    let e : x * n ≡ h.times * n * u * d = omega (arith, ap (λ (a : ℕ). a * n) h.multiple) in
    let c : x * n / d ≡ h.times * n * u = div-eq_of_eq-mul_left hd e in
    record {
      times = h.times * n;
      multiple = c;
      is =
          rw (is-per h.is)
          (is-portion x n d q.den (x * n / d) hd h.is.above (ap (λ (y : ℕ). y * d) c ∙ sym e));
    }

least-multiple : (t : Bool) (c k u x : ℕ) → x ≡ k * u → cond t (c * u) x ≡ cond t c k * u
least-multiple true c k u x e = refl
least-multiple false c k u x e = e

pub exactly-at-most : (u c : ℕ) {x : ℕ} {q : Frac} → Exactly u x q → Exactly u (least x (c * u)) (q at_most c * u)
exactly-at-most u c {x} h =
    record {
      times = cond (ltb (c * u) x) c h.times;
      multiple = least-multiple (ltb (c * u) x) c h.times u x h.multiple;
      is = near-at-most (c * u) h.is;
    }

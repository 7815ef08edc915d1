-- How far a cut figure lies from the exact one, on either side, in millionths of a gram; and what each step of a
-- formula does to that. A figure's chain of laws follows its formula, the errors compute, and `near_within` ends it.
-- Assumes nothing.
use mathlib.Core.Path.{◌≡◌, refl, sym, ap, subst, ◌∙◌}
use mathlib.Core.Bool.{Bool, true, false, cond}
use Prim.Native.Nat.{ℕ, zero, suc, ◌+◌, ◌-◌, ◌*◌, ◌/◌, ◌≤◌, ◌<◌}
use native.Mathlib.Nat.{
  mul-le-mul_left,
  mul-le-mul_right,
  mul-pos,
  mul-one,
  mul_assoc,
  zero-mul,
  le_of_lt,
  le_trans,
  le_of_mul-le-mul_right,
  div-mul-le_self,
  lt-div-mul-add,
}
use native.Mathlib.Omega.{arith}
use borrow.Author.Tests.{ltb-true, ltb-false}
use lib.Dec.{ltb}
use lib.IntN.{ℤ, pos, negsuc, neg_ℤ, ◌+ℤ◌, ◌-ℤ◌, ◌*ℤ◌}
use Rattle.cut_division.specs.Cut.{least}
use Rattle.cut_division.specs.Frac.{Frac, per, whole, ◌⊕◌, ◌⊖◌, ◌⊗◌, least_num, ◌at_most◌, Within}
use Rattle.cut_division.proofs.Signed.{up, dn, Diff, add_diff, minus_diff, scale_diff, size_of, pos_sub}
use Rattle.cut_division.proofs.Shares.{least-le}

-- (p - m) / d is at most a - b and e millionths
abbrev pub Below : ℕ → ℕ → ℕ → ℕ → ℕ → ℕ → Type 0
Below p m a b d e = 1000000 * p + 1000000 * (b * d) ≤ 1000000 * (a * d) + 1000000 * m + e * d

-- x is at most lo millionths below q, and at most hi millionths above it
pub record Near (lo hi : ℕ) (x : ℤ) (q : Frac) : Type 0 where
  pub above : 0 < q.den
  pub low : Below (up q.num) (dn q.num) (up x) (dn x) q.den lo
  pub high : Below (dn q.num) (up q.num) (dn x) (up x) q.den hi

-- ---- a whole number is exact

pub near-whole : (n : ℕ) → Near 0 0 (pos n) (whole n)
near-whole n = record { above = omega arith; low = omega arith; high = omega arith }

-- one rounded to nearest is within a half
pub near-nearest : (r n d : ℕ) → 0 < d → 2 * n ≤ 2 * r * d + d → 2 * r * d ≤ 2 * n + d
    → Near 500000 500000 (pos r) (per n d)
near-nearest r n d hd low high = record { above = hd; low = omega arith; high = omega arith }

-- ---- more room, and the end: within e

pub near_weaken : {lo hi lo' hi' : ℕ} {x : ℤ} {q : Frac} → lo ≤ lo' → hi ≤ hi' → Near lo hi x q → Near lo' hi' x q
near_weaken {q} kl kh h =
    record {
      above = h.above;
      low = omega (arith, mul-le-mul_right q.den kl, h.low);
      high = omega (arith, mul-le-mul_right q.den kh, h.high);
    }

pub near_within : (e : ℕ) {lo hi : ℕ} {x : ℤ} {q : Frac} → lo ≤ e * 1000000 → hi ≤ e * 1000000 → Near lo hi x q
    → Within e x q
near_within e {x} {q} kl kh h =
    let S = scale_diff x q.den in
    record {
      above = h.above;
      near = size_of _ (e * q.den) (minus_diff (x *ℤ pos q.den) q.num)
          (omega (arith, mul-le-mul_right q.den kh, h.high))
          (omega (arith, mul-le-mul_right q.den kl, h.low));
    }

-- within fewer grams, within more
pub within_weaken : {e d : ℕ} {x : ℤ} {q : Frac} → e ≤ d → Within e x q → Within d x q
within_weaken {q} k h = record { above = h.above; near = le_trans h.near (mul-le-mul_right q.den k) }

-- ---- a cut share: x * n / d, with the remainder gone

cut_low : (x n d p m p' m' D lo lo' : ℕ) → 0 < d → p' + m * n ≡ p * n + m' → lo * n + 1000000 * d ≤ lo' * d
    → Below p m x 0 D lo → Below p' m' (x * n / d) 0 (D * d) lo'
cut_low x n d p m p' m' D lo lo' hd e k h = go (x * n / d) (lt-div-mul-add {a = x * n} hd)
  where
    go : (y : ℕ) → x * n < y * d + d → Below p' m' y 0 (D * d) lo'
    go y c =
        let f : x * n * D ≤ (y * d + d) * D = mul-le-mul_right D (omega arith) in
        omega (arith, mul-le-mul_right D k, mul-le-mul_right n h)

cut_high : (x n d p m p' m' D hi hi' : ℕ) → p' + m * n ≡ p * n + m' → hi * n ≤ hi' * d
    → Below m p 0 x D hi → Below m' p' 0 (x * n / d) (D * d) hi'
cut_high x n d p m p' m' D hi hi' e k h = go (x * n / d) (div-mul-le_self (x * n) d)
  where
    go : (y : ℕ) → y * d ≤ x * n → Below m' p' 0 y (D * d) hi'
    go y c = omega (arith, mul-le-mul_right D c, mul-le-mul_right D k, mul-le-mul_right n h)

-- the general law: lo' and hi' are the caller's, and are shown to be enough
pub near-cut-to : (lo' hi' n d : ℕ) {lo hi x : ℕ} {q : Frac} → 0 < d → lo * n + 1000000 * d ≤ lo' * d → hi * n ≤ hi' * d
    → Near lo hi (pos x) q → Near lo' hi' (pos (x * n / d)) (q ⊗ per n d)
near-cut-to lo' hi' n d {lo} {hi} {x} {q} hd kl kh h =
    let s = scale_diff q.num n in
    record {
      above = mul-pos h.above hd;
      low = cut_low x n d (up q.num) (dn q.num) (up (q.num *ℤ pos n)) (dn (q.num *ℤ pos n)) q.den lo lo' hd
          s.eq kl h.low;
      high = cut_high x n d (up q.num) (dn q.num) (up (q.num *ℤ pos n)) (dn (q.num *ℤ pos n)) q.den hi hi'
          s.eq kh h.high;
    }

-- by a share of at most 1
pub near-part : (n d : ℕ) {lo hi x : ℕ} {q : Frac} → 0 < d → n ≤ d
    → Near lo hi (pos x) q → Near (lo + 1000000) hi (pos (x * n / d)) (q ⊗ per n d)
near-part n d {lo} {hi} hd h =
    near-cut-to (lo + 1000000) hi n d hd (omega (arith, mul-le-mul_left lo h)) (mul-le-mul_left hi h)

-- ---- a cut quotient

pub near-div-to : (lo' hi' d : ℕ) {lo hi x : ℕ} {q : Frac} → 0 < d → lo + 1000000 * d ≤ lo' * d → hi ≤ hi' * d
    → Near lo hi (pos x) q → Near lo' hi' (pos (x / d)) (q ⊗ per 1 d)
near-div-to lo' hi' d {x} {q} hd kl kh h =
    subst (λ (n : ℕ). Near lo' hi' (pos (n / d)) (q ⊗ per 1 d)) (mul-one x)
    (near-cut-to lo' hi' 1 d hd (omega arith) (omega arith) h)

-- by a divisor in numerals: the errors compute
pub near_div : (d : ℕ) {lo hi x : ℕ} {q : Frac} → 0 < d
    → Near lo hi (pos x) q → Near (lo / d + 1000001) (hi / d + 1) (pos (x / d)) (q ⊗ per 1 d)
near_div d {lo} {hi} hd =
    near-div-to (lo / d + 1000001) (hi / d + 1) d hd (omega (arith, lt-div-mul-add {a = lo} hd))
    (omega (arith, lt-div-mul-add {a = hi} hd))

-- ---- sums and differences

sum_side : (p₁ m₁ a₁ b₁ D₁ e₁ p₂ m₂ a₂ b₂ D₂ e₂ P M A B : ℕ)
    → P + (m₁ * D₂ + m₂ * D₁) ≡ p₁ * D₂ + p₂ * D₁ + M → A + (b₁ + b₂) ≡ a₁ + a₂ + B
    → Below p₁ m₁ a₁ b₁ D₁ e₁ → Below p₂ m₂ a₂ b₂ D₂ e₂ → Below P M A B (D₁ * D₂) (e₁ + e₂)
sum_side p₁ m₁ a₁ b₁ D₁ e₁ p₂ m₂ a₂ b₂ D₂ e₂ P M A B e f h₁ h₂ =
    omega (arith, mul-le-mul_right D₂ h₁, mul-le-mul_right D₁ h₂, ap (λ (n : ℕ). n * (D₁ * D₂)) f)

pub near_add : {lo₁ hi₁ lo₂ hi₂ : ℕ} {x y : ℤ} {q r : Frac} → Near lo₁ hi₁ x q → Near lo₂ hi₂ y r
    → Near (lo₁ + lo₂) (hi₁ + hi₂) (x +ℤ y) (q ⊕ r)
near_add {x} {y} {q} {r} h₁ h₂ =
    let N = add_diff (q.num *ℤ pos r.den) (r.num *ℤ pos q.den) in
    let S₁ = scale_diff q.num r.den in
    let S₂ = scale_diff r.num q.den in
    let X = add_diff x y in
    record {
      above = mul-pos h₁.above h₂.above;
      low = sum_side _ _ _ _ _ _ _ _ _ _ _ _ _ _ _ _ (omega arith) (omega arith) h₁.low h₂.low;
      high = sum_side _ _ _ _ _ _ _ _ _ _ _ _ _ _ _ _ (omega arith) (omega arith) h₁.high h₂.high;
    }

-- what is taken away brings its errors in crosswise
pub near_sub : {lo₁ hi₁ lo₂ hi₂ : ℕ} {x y : ℤ} {q r : Frac} → Near lo₁ hi₁ x q → Near lo₂ hi₂ y r
    → Near (lo₁ + hi₂) (hi₁ + lo₂) (x -ℤ y) (q ⊖ r)
near_sub {x} {y} {q} {r} h₁ h₂ =
    let N = minus_diff (q.num *ℤ pos r.den) (r.num *ℤ pos q.den) in
    let S₁ = scale_diff q.num r.den in
    let S₂ = scale_diff r.num q.den in
    let X = minus_diff x y in
    record {
      above = mul-pos h₁.above h₂.above;
      low = sum_side _ _ _ _ _ _ _ _ _ _ _ _ _ _ _ _ (omega arith) (omega arith) h₁.low h₂.high;
      high = sum_side _ _ _ _ _ _ _ _ _ _ _ _ _ _ _ _ (omega arith) (omega arith) h₁.high h₂.low;
    }

-- the same among whole numbers: what remains of x
pub near-rest : {lo₁ hi₁ lo₂ hi₂ x y : ℕ} {q r : Frac} → y ≤ x → Near lo₁ hi₁ (pos x) q → Near lo₂ hi₂ (pos y) r
    → Near (lo₁ + hi₂) (hi₁ + lo₂) (pos (x - y)) (q ⊖ r)
near-rest {lo₁} {hi₁} {lo₂} {hi₂} {x} {y} {q} {r} h h₁ h₂ =
    subst (λ (z : ℤ). Near (lo₁ + hi₂) (hi₁ + lo₂) z (q ⊖ r)) (pos_sub x y h) (near_sub h₁ h₂)

-- ---- a ceiling

least-low : (p n x D e : ℕ) (t u : Bool) → ltb (n * D) p ≡ t → ltb n x ≡ u
    → Below p 0 x 0 D e → Below (cond t (n * D) p) 0 (cond u n x) 0 D e
least-low p n x D e true true et eu h = omega arith
least-low p n x D e true false et eu h = omega (arith, ltb-true (n * D) p et)
least-low p n x D e false true et eu h = omega (arith, ltb-false (n * D) p et)
least-low p n x D e false false et eu h = h

least-high : (p n x D e : ℕ) (t u : Bool) → ltb (n * D) p ≡ t → ltb n x ≡ u
    → Below 0 p 0 x D e → Below 0 (cond t (n * D) p) 0 (cond u n x) D e
least-high p n x D e true true et eu h = omega arith
least-high p n x D e true false et eu h = omega (arith, mul-le-mul_right D (ltb-false n x eu))
least-high p n x D e false true et eu h = omega (arith, mul-le-mul_right D (le_of_lt (ltb-true n x eu)))
least-high p n x D e false false et eu h = h

cap_low : (z : ℤ) (n x D e : ℕ) → Below (up z) (dn z) x 0 D e
    → Below (up (least_num z (n * D))) (dn (least_num z (n * D))) (least x n) 0 D e
cap_low (pos p) n x D e h = least-low p n x D e (ltb (n * D) p) (ltb n x) refl refl h
cap_low (negsuc p) n x D e h = omega arith

cap_high : (z : ℤ) (n x D e : ℕ) → Below (dn z) (up z) 0 x D e
    → Below (dn (least_num z (n * D))) (up (least_num z (n * D))) 0 (least x n) D e
cap_high (pos p) n x D e h = least-high p n x D e (ltb (n * D) p) (ltb n x) refl refl h
cap_high (negsuc p) n x D e h = omega (arith, mul-le-mul_right D (least-le x n))

pub near-at-most : (n : ℕ) {lo hi x : ℕ} {q : Frac} → Near lo hi (pos x) q → Near lo hi (pos (least x n)) (q at_most n)
near-at-most n {lo} {hi} {x} {q} h =
    record {
      above = h.above;
      low = cap_low q.num n x q.den lo h.low;
      high = cap_high q.num n x q.den hi h.high;
    }

-- ---- a product of two near figures: x f - q r = x (f - r) + (x - q) r, with bounds X of x and G of r

mul_diff : (a c : ℤ) → dn c ≡ 0 → Diff (a *ℤ c) (up a * up c) (dn a * up c)
mul_diff a (pos n) e = scale_diff a n
mul_diff a (negsuc n) e = absurd (no n e)
  where
    no : (n : ℕ) → suc n ≡ 0 → ⊥
    no n e = omega arith

-- the exact second factor is at most G
factor_most : (f F G b D lo : ℕ) → f ≤ F → F * 1000000 + lo ≤ G * 1000000 → Below b 0 f 0 D lo → b ≤ G * D
factor_most f F G b D lo hf k h = omega (arith, mul-le-mul_right D hf, mul-le-mul_right D k, h)

mul_low : (x f X G p m D₁ b D₂ lo₁ lo₂ P M : ℕ) → x ≤ X → b ≤ G * D₂ → P + m * b ≡ p * b + M
    → Below p m x 0 D₁ lo₁ → Below b 0 f 0 D₂ lo₂ → Below P M (x * f) 0 (D₁ * D₂) (X * lo₂ + lo₁ * G)
mul_low x f X G p m D₁ b D₂ lo₁ lo₂ P M hx hb e h₁ h₂ =
    omega (
      arith,
      mul-le-mul_right b h₁,
      mul-le-mul_right (x * D₁) h₂,
      mul-le-mul_right (lo₂ * (D₁ * D₂)) hx,
      mul-le-mul_right (lo₁ * D₁) hb,
    )

mul-high : (x f X G p m D₁ b D₂ hi₁ hi₂ P M : ℕ) → x ≤ X → b ≤ G * D₂ → P + m * b ≡ p * b + M
    → Below m p 0 x D₁ hi₁ → Below 0 b 0 f D₂ hi₂ → Below M P 0 (x * f) (D₁ * D₂) (X * hi₂ + hi₁ * G)
mul-high x f X G p m D₁ b D₂ hi₁ hi₂ P M hx hb e h₁ h₂ =
    omega (
      arith,
      mul-le-mul_right b h₁,
      mul-le-mul_right (x * D₁) h₂,
      mul-le-mul_right (hi₂ * (D₁ * D₂)) hx,
      mul-le-mul_right (hi₁ * D₁) hb,
    )

-- x is at most X, and f at most F; that r is not below zero is `refl` where it is made of shares, sums, products and
-- ceilings
pub near_mul : (X F G : ℕ) {lo₁ hi₁ lo₂ hi₂ x f : ℕ} {q r : Frac} → x ≤ X → f ≤ F → F * 1000000 + lo₂ ≤ G * 1000000
    → dn r.num ≡ 0
    → Near lo₁ hi₁ (pos x) q → Near lo₂ hi₂ (pos f) r
    → Near (X * lo₂ + lo₁ * G) (X * hi₂ + hi₁ * G) (pos (x * f)) (q ⊗ r)
near_mul X F G {lo₁} {hi₁} {lo₂} {hi₂} {x} {f} {q} {r} hx hf h_g e h₁ h₂ =
    let N = mul_diff q.num r.num e in
    let l₂ : Below (up r.num) 0 f 0 r.den lo₂ = omega (arith, h₂.low) in
    let g₂ : Below 0 (up r.num) 0 f r.den hi₂ = omega (arith, h₂.high) in
    let b = factor_most f F G (up r.num) r.den lo₂ hf h_g l₂ in
    record {
      above = mul-pos h₁.above h₂.above;
      low = mul_low x f X G (up q.num) (dn q.num) q.den (up r.num) r.den lo₁ lo₂ _ _ hx b N.eq
          h₁.low l₂;
      high = mul-high x f X G (up q.num) (dn q.num) q.den (up r.num) r.den hi₁ hi₂ _ _ hx b N.eq
          h₁.high g₂;
    }

-- cut by a factor that is itself near: f parts of d, at most all of them. With X and d in numerals the errors compute
pub near-factor : (X d : ℕ) {lo₁ hi₁ lo₂ hi₂ x f : ℕ} {q r : Frac} → 0 < d → x ≤ X → f ≤ d → dn r.num ≡ 0
    → Near lo₁ hi₁ (pos x) q → Near lo₂ hi₂ (pos f) r
    → Near ((X * lo₂ + lo₁ * (d + (lo₂ / 1000000 + 1))) / d + 1000001)
    ((X * hi₂ + hi₁ * (d + (lo₂ / 1000000 + 1))) / d + 1) (pos (x * f / d)) (q ⊗ r ⊗ per 1 d)
near-factor X d {lo₂} hd hx hf e h₁ h₂ =
    near_div d hd (near_mul X d (d + (lo₂ / 1000000 + 1)) hx hf (omega arith) e h₁ h₂)

-- ---- another writing of the same fraction: r is q, multiplied out

same_side : (p m D p' m' D' a b e : ℕ) → 0 < D → p * D' + m' * D ≡ p' * D + m * D' → Below p m a b D e
    → Below p' m' a b D' e
same_side p m D p' m' D' a b e h_d s h =
    le_of_mul-le-mul_right {k = D} (omega (arith, mul-le-mul_right D' h)) h_d

pub near_same : {lo hi : ℕ} {x : ℤ} {q r : Frac} → 0 < r.den → q.num *ℤ pos r.den ≡ r.num *ℤ pos q.den
    → Near lo hi x q → Near lo hi x r
near_same {lo} {hi} {x} {q} {r} hr e h =
    let S = scale_diff q.num r.den in
    let T = scale_diff r.num q.den in
    let u : up (q.num *ℤ pos r.den) ≡ up (r.num *ℤ pos q.den) = ap up e in
    let d : dn (q.num *ℤ pos r.den) ≡ dn (r.num *ℤ pos q.den) = ap dn e in
    record {
      above = hr;
      low = same_side (up q.num) (dn q.num) q.den (up r.num) (dn r.num) r.den (up x) (dn x) lo
          h.above (omega arith) h.low;
      high = same_side (dn q.num) (up q.num) q.den (dn r.num) (up r.num) r.den (dn x) (up x) hi
          h.above (omega arith) h.high;
    }

-- ---- one cut by several shares: the exact figure may be written share by share

neg_scale : (k n : ℕ) → neg_ℤ (pos k) *ℤ pos n ≡ neg_ℤ (pos (k * n))
neg_scale zero n = rw zero-mul
neg_scale (suc k) n = refl

scale_scale : (z : ℤ) (m n : ℕ) → z *ℤ pos m *ℤ pos n ≡ z *ℤ pos (m * n)
scale_scale (pos a) m n = ap pos (mul_assoc a m n)
scale_scale (negsuc a) m n = neg_scale (suc a * m) n ∙ ap (λ (k : ℕ). neg_ℤ (pos k)) (mul_assoc (suc a) m n)

share-of-share : (q : Frac) (m c n d : ℕ) → q ⊗ per m c ⊗ per n d ≡ q ⊗ per (m * n) (c * d)
share-of-share q m c n d = rw (scale_scale, mul_assoc)

pub near_shares2 : (q : Frac) (m c n d : ℕ) {lo hi : ℕ} {x : ℤ} → Near lo hi x (q ⊗ per (m * n) (c * d))
    → Near lo hi x (q ⊗ per m c ⊗ per n d)
near_shares2 q m c n d {lo} {hi} {x} h = subst (λ (r : Frac). Near lo hi x r) (sym (share-of-share q m c n d)) h

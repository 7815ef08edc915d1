-- What the crates above need of k: it is nearest to the exact growth, at least 1, and at most k at 24 hours.
-- Assumes nothing.
use Prim.Native.Nat.{ℕ, zero, suc, ◌+◌, ◌*◌, ◌%◌, ◌^◌, ◌≤◌, ◌<◌}
use mathlib.Core.Path.{◌≡◌, refl}
use native.Mathlib.Nat.{
  mul-le-mul_left,
  mul-le-mul_right,
  pow-le-pow_left,
  add-le-add,
  div-add-mod',
  mod-lt,
  le_refl,
  le_trans,
  le-div_iff_mul-le,
  div-mul-le_self,
}
use native.Mathlib.Omega.{arith}
use lib.Dec.{lit<}
use borrow.Author.Tests.{le-leb}
use Rattle.tables.specs.Growth.{
  exp_num,
  exp_den,
  last_term,
  k_grazing_b,
  growth_num,
  growth_den,
  nearest,
  k_at,
  within_day,
  k_of,
  most_k,
  NearestK,
}
use Rattle.tables.proofs.Entries.{within_day-le}

pub growth_den-above : 0 < growth_den
unfolding growth_den exp_den
growth_den-above = lit< tt

module _ (n d : ℕ) (above : 0 < d) where
  whole : nearest n d * (2 * d) + (2 * n + d) % (2 * d) ≡ 2 * n + d
  unfolding nearest
  whole = div-add-mod' (2 * n + d) (2 * d)

  rest : (2 * n + d) % (2 * d) < 2 * d
  rest = mod-lt (2 * n + d) (omega arith)

  nearest-low : 2 * n ≤ 2 * nearest n d * d + d
  nearest-low = omega (arith, whole, rest)

  nearest-high : 2 * nearest n d * d ≤ 2 * n + d
  nearest-high = omega (arith, whole)

  rises : {m : ℕ} → m ≤ n → nearest m d ≤ nearest n d
  unfolding nearest
  rises {m} h = (le-div_iff_mul-le {k = 2 * d} (omega arith)).1
      (le_trans (div-mul-le_self (2 * m + d) (2 * d)) (omega arith))

exp_rises : {y z : ℕ} (b n : ℕ) → y ≤ z → exp_num y b n ≤ exp_num z b n
unfolding exp_num
exp_rises b zero h = le_refl 1
exp_rises b (suc n) h = add-le-add (mul-le-mul_right (b * suc n) (exp_rises b n h)) (pow-le-pow_left h (suc n))

k_at-rises : {t u : ℕ} → t ≤ u → k_at t ≤ k_at u
unfolding k_at growth_num
k_at-rises h = rises _ growth_den growth_den-above
    (mul-le-mul_left _ (exp_rises 100000 last_term (mul-le-mul_left k_grazing_b h)))

-- k at 24 hours
k-all-day : k_at 240 ≡ most_k
unfolding k_at nearest growth_num growth_den exp_num exp_den
k-all-day = refl

pub k-most : (t : ℕ) → k_of t ≤ most_k
unfolding k_of
k-most t = omega (arith, k-all-day, k_at-rises (within_day-le t))

-- k at 0 hours
k-without-grazing : k_at 0 ≡ 10 ^ 9
unfolding k_at nearest growth_num growth_den exp_num exp_den
k-without-grazing = refl

pub k-least : (t : ℕ) → 10 ^ 9 ≤ k_of t
unfolding k_of
k-least t = omega (arith, k-without-grazing, k_at-rises {t = 0} {u = within_day t} (omega arith))

at-hours : (t : ℕ) → t ≤ 240 → k_of t ≡ k_at t
unfolding k_of within_day
at-hours t h = rw (le-leb t 240 h)

pub k-nearest : {t k : ℕ} → k ≡ k_of t → t ≤ 240 → NearestK t k
unfolding k_at
k-nearest {t} {k} e h = rw (e, at-hours t h) record {
  low = omega (arith, nearest-low (10 ^ 9 * growth_num t) growth_den growth_den-above);
  high = omega (arith, nearest-high (10 ^ 9 * growth_num t) growth_den growth_den-above);
}

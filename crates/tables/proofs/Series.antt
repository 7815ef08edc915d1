-- The growth is the sum of the series' terms 0 to 20, and its denominator is the number that it is. Assumes nothing.
use Prim.Native.Nat.{ℕ, zero, suc, ◌+◌, ◌*◌, ◌^◌}
use mathlib.Core.Path.{◌≡◌, refl, ap}
use native.Mathlib.Nat.{pow-zero, pow-suc}
use native.Mathlib.Omega.{arith}
use lib.Dec.{lit<}
use lib.IntN.{pos}
use Rattle.cut_division.specs.Frac.{per, Same}
use Rattle.tables.specs.Growth.{exp_num, exp_den, growth_num, growth_den}
use Rattle.tables.specs.Series.{◌!, growth_of}
use Rattle.tables.proofs.Growth.{growth_den-above}

-- 100000 ^ 20 * 20!
pub growth_den-is : growth_den ≡ 2432902008176640000 * 10 ^ 100
unfolding growth_den exp_den
growth_den-is = refl

-- ---- the terms 0 to n at y / b, added up one by one as fractions: over the product of their denominators

module _ (y b : ℕ) where
  unfoldable below : ℕ → ℕ
  below zero = 1 * (b ^ 0 * 0 !)
  below (suc n) = below n * (b ^ suc n * suc n !)

  unfoldable above : ℕ → ℕ
  above zero = 0 * (b ^ 0 * 0 !) + y ^ 0 * 1
  above (suc n) = above n * (b ^ suc n * suc n !) + y ^ suc n * below n

  exp_den-is : (n : ℕ) → exp_den b n ≡ b ^ n * n !
  unfolding exp_den ◌!
  exp_den-is zero = rw pow-zero refl
  exp_den-is (suc n) =
      omega (arith, ap (λ (x : ℕ). x * (b * suc n)) (exp_den-is n), ap (λ (x : ℕ). x * (suc n * n !)) (pow-suc b n))

  -- a further term p, where the denominator d of the growth e grows by c
  one_more : (e d a l c p : ℕ) → e * l ≡ a * d → (e * c + p) * (l * (d * c)) ≡ (a * (d * c) + p * l) * (d * c)
  one_more e d a l c p h = omega (arith, ap (λ (x : ℕ). x * (c * d * c)) h)

  terms-added : (n : ℕ) → exp_num y b n * below n ≡ above n * exp_den b n
  unfolding exp_num exp_den above below ◌!
  terms-added zero = rw (pow-zero b, pow-zero y) refl
  terms-added (suc n) =
      rw (← exp_den-is (suc n))
      (one_more (exp_num y b n) (exp_den b n) (above n) (below n) (b * suc n) (y ^ suc n) (terms-added n))

-- the growth is exp(0.0403 × hours) by the terms 0 to 20
pub growth_series : (t : ℕ) → Same (per (growth_num t) growth_den) (growth_of t)
unfolding growth_num growth_den above below ◌!
growth_series t =
    record {
      left_above = growth_den-above;
      right_above = lit< tt;
      crosswise = ap pos (terms-added (403 * t) 100000 20);
    }

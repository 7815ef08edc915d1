-- 2.87, k_grazing = exp(k_grazing_b * grazing_hours): how much more an animal's housing emits on a day with so many
-- hours on pasture. 01, Steps and cuts: exp is its series, terms 0 to 20, and k that number in billionths, rounded to
-- nearest. The coefficient k_grazing_a, 0.9989, which 2.87 prints too, stands in no formula there, and none here.
use Rattle.std.specs.Prelude.{ℕ, zero, suc, ◌+◌, ◌*◌, ◌/◌, ◌^◌, ◌≤◌, leb}
use Rattle.base.specs.Pick.{pick}

-- the sum of x ^ i / i! for i from 0 to n, at x = y / b, over the common denominator b ^ n * n!:
-- a further term multiplies both by b * n, and adds y ^ n above the line
unfoldable pub exp_num : ℕ → ℕ → ℕ → ℕ
exp_num y b zero = 1
exp_num y b (suc n) = exp_num y b n * (b * suc n) + y ^ suc n

unfoldable pub exp_den : ℕ → ℕ → ℕ
exp_den b zero = 1
exp_den b (suc n) = exp_den b n * (b * suc n)

-- the last term of the series
abbrev pub last_term : ℕ
last_term = 20

-- k_grazing_b, 0.0403, in ten-thousandths
abbrev pub k_grazing_b : ℕ
k_grazing_b = 403

-- exp(k_grazing_b * hours) as a fraction; t tenths of an hour make k_grazing_b * t hundred-thousandths
unfoldable pub growth_num : ℕ → ℕ
growth_num t = exp_num (k_grazing_b * t) 100000 last_term

unfoldable pub growth_den : ℕ
growth_den = exp_den 100000 last_term

-- n / d rounded to nearest, a half upwards
unfoldable pub nearest : ℕ → ℕ → ℕ
nearest n d = (2 * n + d) / (2 * d)

-- k in billionths at t tenths of an hour
unfoldable pub k_at : ℕ → ℕ
k_at t = nearest (10 ^ 9 * growth_num t) growth_den

-- a day has 240 tenths of an hour; what is above counts as 240
unfoldable pub within_day : ℕ → ℕ
within_day t = pick (leb t 240) t 240

unfoldable pub k_of : ℕ → ℕ
k_of t = k_at (within_day t)

-- k at 24 hours: no k is above it (`k-most`)
abbrev pub most_k : ℕ
most_k = 2630568546

-- k is a whole number of billionths nearest to the exact growth: they differ by half a billionth at most
pub record NearestK (t k : ℕ) : Type 0 where
  pub low : 2 * 10 ^ 9 * growth_num t ≤ 2 * k * growth_den + growth_den
  pub high : 2 * k * growth_den ≤ 2 * 10 ^ 9 * growth_num t + growth_den

-- 01, Steps and cuts: "exp taken as its series terms 0 to 20". Here the twenty-one terms stand one by one and are
-- added up as fractions, each over its own denominator. That `Growth`, which has them over a common one, gives the
-- same number is `growth_series` of proofs/Series.
use Rattle.std.specs.Prelude.{ℕ, zero, suc, ◌*◌, ◌^◌, List, [], ◌∷◌}
use Rattle.cut_division.specs.Frac.{Frac, per}
use Rattle.cut_division.specs.Total.{exact_total}

infix 75 ◌!
unfoldable pub ◌! : ℕ → ℕ
zero ! = 1
suc n ! = suc n * n !

-- the n-th term at x = y / b: x ^ n / n!
abbrev pub term : ℕ → ℕ → ℕ → Frac
term y b n = per (y ^ n) (b ^ n * n !)

abbrev pub terms : List ℕ
terms = 0 ∷ 1 ∷ 2 ∷ 3 ∷ 4 ∷ 5 ∷ 6 ∷ 7 ∷ 8 ∷ 9 ∷ 10 ∷ 11 ∷ 12 ∷ 13 ∷ 14 ∷ 15 ∷ 16 ∷ 17 ∷ 18 ∷ 19 ∷ 20 ∷ []

-- exp(0.0403 × hours) at t tenths of an hour: 0.0403 × t / 10 is 403 × t / 100000
abbrev pub growth_of : ℕ → Frac
growth_of t = exact_total (term (403 * t) 100000) terms

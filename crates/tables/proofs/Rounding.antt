-- What the rounding of k leaves open, computed at all of its entries: none is a tie, so "a half upwards" decides
-- nothing; and the terms 14 to 20 of the series change none. Assumes nothing.
use Prim.Native.Nat.{ℕ, ◌+◌, ◌*◌, ◌%◌, ◌^◌, ◌≤◌, ◌<◌}
use mathlib.Core.Path.{◌≡◌, refl}
use mathlib.Core.Bool.{Bool}
use mathlib.Core.List.{List}
use native.Mathlib.Omega.{arith}
use lib.Dec.{eqb, ltb, eqb→eq, ltb→lt}
use lib.ListN.{length, replicate}
use Rattle.base.proofs.Table.{every-at}
use Rattle.tables.specs.Growth.{exp_num, exp_den, k_grazing_b, growth_num, growth_den, nearest, k_at}

-- a place for each entry
abbrev places : List ℕ
places = replicate 241 0

placed : (t : ℕ) → t ≤ 240 → t < length places
placed t h = let l : length places ≡ 241 = refl in omega arith

-- what is left where twice the exact k, and 1, is divided by 2: nothing at a tie
abbrev left : ℕ → ℕ
left t = (2 * (10 ^ 9 * growth_num t) + growth_den) % (2 * growth_den)

unfoldable tieless : ℕ → ℕ → Bool
tieless t x = ltb 0 (left t)

pub no_tie : (t : ℕ) → t ≤ 240 → 0 < left t
unfolding tieless growth_num growth_den exp_num exp_den
no_tie t h = ltb→lt _ _ (every-at tieless places tt t (placed t h))

-- k by the terms 0 to n
abbrev k_by_terms : ℕ → ℕ → ℕ
k_by_terms n t = nearest (10 ^ 9 * exp_num (k_grazing_b * t) 100000 n) (exp_den 100000 n)

unfoldable unchanged : ℕ → ℕ → Bool
unchanged t x = eqb (k_by_terms 13 t) (k_at t)

pub later-terms_change_nothing : (t : ℕ) → t ≤ 240 → k_by_terms 13 t ≡ k_at t
unfolding unchanged k_at nearest growth_num growth_den exp_num exp_den
later-terms_change_nothing t h = eqb→eq _ _ (every-at unchanged places tt t (placed t h))

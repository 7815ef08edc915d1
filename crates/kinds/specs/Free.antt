-- 2.18 and 2.33, c_free_factor_yard; 2.60 and 2.86, c_free_factor_housing, in percent: 1 less the free factor, which
-- may be below zero (02, W3). To be believed.
use Rattle.std.specs.Prelude.{ℕ, suc, ◌+◌, ◌-◌, ℤ, pos, negsuc}
use Rattle.amounts.specs.Units.{percent}

abbrev pub c_free_factor : ℤ → ℕ
c_free_factor (pos free) = percent - free
c_free_factor (negsuc n) = percent + suc n

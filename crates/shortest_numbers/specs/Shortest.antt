-- 02, W5: "numbers in their shortest form". The whole part, and behind a point the decimals but for zeros at their end;
-- no point without a digit behind it. proofs/Written shows that it is the number, proofs/NoShorter that no shorter text
-- is. To be believed.
use Rattle.std.specs.Prelude.{ℕ, zero, suc, ◌/◌, ◌%◌, ◌^◌, List, ◌++◌}
use Rattle.base.specs.Pick.{if◌is◌then◌else◌}
use Rattle.base.specs.Text.{bytes}
use Rattle.decimal.specs.Writing.{lowest, whole_of}

-- v counts units of ten to the minus d: with all d decimals
unfoldable pub pointed : ℕ → ℕ → List ℕ
pointed d v = whole_of (v / 10 ^ d) ++ bytes "." ++ lowest d v

-- and in its shortest form: where the last decimal is 0, with one decimal less
unfoldable pub shortest : ℕ → ℕ → List ℕ
shortest zero v = whole_of v
shortest (suc d) v = if v % 10 is 0 then shortest d (v / 10) else pointed (suc d) v

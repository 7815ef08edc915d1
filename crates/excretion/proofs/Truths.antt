-- 2.22, 2.50 and 2.84 in plain words: no herd excretes more TAN than N. Assumes nothing.
use Prim.Native.Nat.{ℕ, ◌*◌, ◌≤◌}
use Rattle.cut_division.proofs.Shares.{part-le}
use Rattle.amounts.specs.Units.{ten_thousandths}
use Rattle.amounts.specs.Arithmetic.{cutting}
use Rattle.excretion.specs.Excretion.{excreted}

pub tan-excretion_in_n : (animals grams fraction : ℕ) → fraction ≤ ten_thousandths
    → (excreted cutting animals grams fraction).tan_excretion ≤ (excreted cutting animals grams fraction).n_excretion
tan-excretion_in_n animals grams fraction h = part-le (animals * grams) fraction ten_thousandths h

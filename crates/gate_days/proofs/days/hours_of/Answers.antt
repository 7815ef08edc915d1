-- `gate_days::days::hours_of` meets its contract: each number is at most 240, so their sum does not run over. Assumes
-- nothing.
use native.Mathlib.Omega.{arith}
use Prim.Native.Nat.{◌≤◌}
use Rattle.gate_days.proofs.DaySteps.{number_small}
use borrow.Author.Rules.{rules}
use Rattle.gate_days.proofs.days.hours_of.Goals as goal

pub overflow_add-pasture : goal.overflow_add-pasture
overflow_add-pasture c =
    let yard : c.in-Some-read_number.yard ≤ 240 = search (rules, number_small) in
    let pasture : c.in-Some.pasture ≤ 240 = search (rules, number_small) in
    omega arith

-- `test_records::case_records::given_by` is safe and ends: a number of six digits is an i32 on either side of zero.
-- Assumes nothing.
use Prim.Native.Nat.{ℕ, zero, suc, ◌<◌, ◌%◌}
use native.Mathlib.Omega.{arith}
use borrow.Author.Rules.{rules}
use lib.IntN.{pos, negsuc, ◌-ℤ◌, +ℤ_idl}
use mir.Syntax.{w32}
use mir.Val.{SFits, to_z}
use mir.Facts.{to_z-of_z, sfits_lit}
use Rattle.test_records.proofs.case_records.given_by.Goals as goal

minus_fits : (n : ℕ) → n < 1000000 → SFits w32 (pos 0 -ℤ pos n)
minus_fits zero h = sfits_lit tt
minus_fits (suc n) h = rw (+ℤ_idl (negsuc n)) (record { sfits = omega arith })

number_fits : (n : ℕ) → n < 1000000 → SFits w32 (pos 0 -ℤ to_z w32 n)
number_fits n h =
    let f : SFits w32 (pos n) = record { sfits = omega arith } in
    rw (to_z-of_z f) (minus_fits n h)

pub overflow_sub-result : goal.overflow_sub-result
overflow_sub-result c = number_fits (c.args.change.value % 1000000) (omega arith)

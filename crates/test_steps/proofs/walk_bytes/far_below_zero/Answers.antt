-- `test_steps::walk_bytes::far_below_zero` is safe: the size has 63 bits. Assumes nothing.
use Prim.Native.Nat.{◌%◌}
use Rattle.test_steps.proofs.Minus.{long-below}
use borrow.Author.Rules.{rules}
use Rattle.test_steps.proofs.walk_bytes.far_below_zero.Goals as goal

pub overflow_sub-result : goal.overflow_sub-result
overflow_sub-result c = long-below (c.args.far % 9223372036854775808) (search rules)

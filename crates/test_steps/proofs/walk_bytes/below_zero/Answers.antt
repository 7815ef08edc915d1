-- `test_steps::walk_bytes::below_zero` is safe: the size has 16 bits. Assumes nothing.
use Prim.Native.Nat.{◌%◌}
use Rattle.test_steps.proofs.Minus.{short-below}
use borrow.Author.Rules.{rules}
use Rattle.test_steps.proofs.walk_bytes.below_zero.Goals as goal

pub overflow_sub-result : goal.overflow_sub-result
overflow_sub-result c = short-below (c.args.size % 65536) (search rules)

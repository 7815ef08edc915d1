-- `cut_division::plus` meets its contract: the sum is no larger than both sizes together, so it fits. Assumes nothing.
use mathlib.Core.Path.{refl}
use Rattle.cut_division.proofs.Signed.{plus_fits, plus_gave}
use Rattle.cut_division.proofs.plus.Goals as goal

pub overflow_add-result : goal.overflow_add-result
overflow_add-result c = plus_fits c.args.a c.args.b c.requires

pub returns : goal.returns
returns c = plus_gave c.args.a c.args.b c.requires _ refl

-- The width of a number below a thousand, and what a cut by a thousand leaves of it. Assumes nothing.
use native.Mathlib.Omega.{arith}
use Rattle.decimal.proofs.Widths.{width_small, width_two, width_three, width-thousand}
use Rattle.decimal.proofs.digits.Goals as goal

pub loop-m-preserved : goal.loop-m-preserved
loop-m-preserved c = (omega (arith, width-thousand c.loop-m.m c.loop-m-test.true), omega arith)

pub returns-in-0-to-9 : goal.returns-in-0-to-9
returns-in-0-to-9 c = omega (arith, width_small c.loop-m.m (omega arith))

pub returns-in-10-to-99 : goal.returns-in-10-to-99
returns-in-10-to-99 c = omega (arith, width_two c.loop-m.m (omega arith) (omega arith))

pub returns-in_default : goal.returns-in_default
returns-in_default c = omega (arith, width_three c.loop-m.m (omega arith) c.loop-m-test.false)

-- `values::name_read` meets its contract: what the search for the name answers, said as a value; no list has
-- more names than a byte has values, so a place fits. Assumes nothing.
use Prim.Native.Nat.{◌<◌}
use native.Mathlib.Omega.{arith}
use borrow.Author.Rules.{rules}
use Rattle.values.proofs.ValueSteps.{name-small, value_steps}
use Rattle.values.proofs.name_read.Goals as goal

pub returns-in_default : goal.returns-in_default
returns-in_default c = search (rules, value_steps)

pub overflow_cast-result : goal.overflow_cast-result
overflow_cast-result c =
    let small : c.in-Some.place < 256 = name-small _ _ c.find_name.ensures c.in-Some.is in omega arith

pub returns : goal.returns
returns c = search (rules, value_steps)

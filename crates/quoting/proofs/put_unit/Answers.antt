-- `quoting::put_unit` meets its contract: two bytes, or one. Assumes nothing.
use Rattle.quoting.proofs.Steps.{two-inside, pair-room, pair_put, one-put}
use borrow.Author.Rules.{rules}
use Rattle.quoting.proofs.put_unit.Goals as goal

pub overflow_add-i : goal.overflow_add-i
overflow_add-i c = search (rules, two-inside)

pub put-requires : goal.put-requires
put-requires c = search (rules, pair-room)

pub returns-then-is_paired : goal.returns-then-is_paired
returns-then-is_paired c = search (rules, pair_put)

pub returns-else-is_paired : goal.returns-else-is_paired
returns-else-is_paired c = search (rules, one-put)

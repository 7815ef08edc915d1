-- `view_writing::write_view` meets its contract: refusal 13 where the whole is longer than the buffer, else the herds
-- and what stands behind them. Assumes nothing.
use Rattle.view_writing.proofs.WriteSteps.{part_steps}
use borrow.Author.Rules.{rules}
use Rattle.view_writing.proofs.write_view.Goals as goal

pub overflow_add-whole : goal.overflow_add-whole
overflow_add-whole c = search (rules, part_steps)

pub returns-then-out-whole : goal.returns-then-out-whole
returns-then-out-whole c = search (rules, part_steps)

pub put_herds-at-requires : goal.put_herds-at-requires
put_herds-at-requires c = search (rules, part_steps)

pub put-requires : goal.put-requires
put-requires c = search (rules, part_steps)

pub returns : goal.returns
returns c = search (rules, part_steps)

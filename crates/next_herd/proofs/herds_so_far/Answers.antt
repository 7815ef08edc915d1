-- `next_herd::herds_so_far` meets its contract: one more where a herd is being read. Assumes nothing.
use borrow.Author.Rules.{rules}
use Rattle.next_herd.proofs.FarmSteps.{counted_steps}
use Rattle.next_herd.proofs.herds_so_far.Goals as goal

pub returns-then-first-eq0 : goal.returns-then-first-eq0
returns-then-first-eq0 c = search (rules, counted_steps)

pub returns-else-first-eq0 : goal.returns-else-first-eq0
returns-else-first-eq0 c = search (rules, counted_steps)

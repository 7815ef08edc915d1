-- `written::hand_over` meets its contract: refusal 13 where the part is longer than the buffer, else the part from the
-- front. Assumes nothing.
use Rattle.written.proofs.Answers.{refused, written}
use borrow.Author.Rules.{rules}
use Rattle.written.proofs.hand_over.Goals as goal

pub returns-then-out-listing : goal.returns-then-out-listing
returns-then-out-listing c = refused c.part_of-listing.ensures (search rules)

pub returns-else-out-listing : goal.returns-else-out-listing
returns-else-out-listing c = written c.part_of-listing.ensures c.put.ensures (search rules)

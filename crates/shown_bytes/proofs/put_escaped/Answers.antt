-- `shown_bytes::put_escaped` meets its contract: as it is, or in octal digits. Assumes nothing.
use Rattle.shown_bytes.proofs.Steps.{byte_steps}
use borrow.Author.Rules.{rules}
use Rattle.shown_bytes.proofs.put_escaped.Goals as goal

pub returns-then-stays : goal.returns-then-stays
returns-then-stays c = search (rules, byte_steps)

pub returns-else-stays : goal.returns-else-stays
returns-else-stays c = search (rules, byte_steps)

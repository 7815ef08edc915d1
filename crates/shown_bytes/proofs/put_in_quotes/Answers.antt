-- `shown_bytes::put_in_quotes` meets its contract: a quote, or any other byte. Assumes nothing.
use Rattle.shown_bytes.proofs.Steps.{byte_steps}
use borrow.Author.Rules.{rules}
use Rattle.shown_bytes.proofs.put_in_quotes.Goals as goal

pub returns-then-b-eq39 : goal.returns-then-b-eq39
returns-then-b-eq39 c = search (rules, byte_steps)

pub returns-else-b-eq39 : goal.returns-else-b-eq39
returns-else-b-eq39 c = search (rules, byte_steps)

-- `records::entries::entry_of` meets its contract: 3 and 4 come first, and where neither applies what the record says
-- is what 5 to 7 leave. Assumes nothing.
use borrow.Author.Rules.{rules}
use Rattle.records.proofs.EntrySteps.{entry_steps}
use Rattle.records.proofs.entries.entry_of.Goals as goal

pub returns-then-f-ne-FIELDS : goal.returns-then-f-ne-FIELDS
returns-then-f-ne-FIELDS c = search (rules, entry_steps)

pub returns-then-not-label_ok : goal.returns-then-not-label_ok
returns-then-not-label_ok c = search (rules, entry_steps)

pub returns-else-not-label_ok : goal.returns-else-not-label_ok
returns-else-not-label_ok c = search (rules, entry_steps)

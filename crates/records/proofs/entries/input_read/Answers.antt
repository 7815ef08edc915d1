-- `records::entries::input_read` meets its contract: each answer is the first of 5 to 7 that applies, by what the
-- searches found in the record's fields. Assumes nothing.
use borrow.Author.Rules.{rules}
use Rattle.records.specs.Entries.{input_read}
use Rattle.records.proofs.EntrySteps.{input_steps}
use Rattle.records.proofs.entries.input_read.Goals as goal

pub returns-in_default : goal.returns-in_default
returns-in_default c = search (rules, input_steps)

pub returns-in_err-given : goal.returns-in_err-given
unfolding input_read
returns-in_err-given c = search (rules, input_steps)

pub returns : goal.returns
returns c = search (rules, input_steps)

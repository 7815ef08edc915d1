-- `plain_fields::plain_end` meets its contract, by what stands where the text ends.
-- Assumes nothing.
use Rattle.plain_fields.proofs.Scans.{plain_steps}
use borrow.Author.Rules.{rules}
use Rattle.plain_fields.proofs.plain_end.Goals as goal

pub returns-then-s-i : goal.returns-then-s-i
returns-then-s-i c = search (rules, plain_steps)

pub returns-in-44 : goal.returns-in-44
returns-in-44 c = search (rules, plain_steps)

pub returns-in-13 : goal.returns-in-13
returns-in-13 c = search (rules, plain_steps)

pub returns-in_default : goal.returns-in_default
returns-in_default c = search (rules, plain_steps)

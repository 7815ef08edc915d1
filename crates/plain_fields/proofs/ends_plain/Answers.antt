-- `plain_fields::ends_plain` meets its contract: one of the four bytes, or none. Assumes nothing.
use Rattle.plain_fields.proofs.Scans.{ends-one, ends-none}
use borrow.Author.Rules.{rules}
use Rattle.plain_fields.proofs.ends_plain.Goals as goal

pub returns-in-44 : goal.returns-in-44
returns-in-44 c = ends-one _ c.in-44.is

pub returns-in_default : goal.returns-in_default
returns-in_default c = search (rules, ends-none)

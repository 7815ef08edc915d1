-- `quoting::unit_at` meets its contract: two bytes, which are both there, or one. Assumes nothing.
use Rattle.quoting.proofs.Steps.{two-inside}
use Rattle.base.proofs.Picks.{picks}
use borrow.Author.Rules.{rules}
use Rattle.quoting.proofs.unit_at.Goals as goal

pub returns-then-is_paired : goal.returns-then-is_paired
returns-then-is_paired c = search (rules, picks, two-inside)

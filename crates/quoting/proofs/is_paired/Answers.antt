-- `quoting::is_paired` meets its contract: too few bytes are left, or the two at the place. Assumes nothing.
use Rattle.quoting.proofs.Steps.{no-pair, two-there}
use borrow.Author.Rules.{rules}
use Rattle.quoting.proofs.is_paired.Goals as goal

pub returns-then-i-s : goal.returns-then-i-s
returns-then-i-s c = search (rules, two-there)

pub returns-else-i-s : goal.returns-else-i-s
returns-else-i-s c = search (rules, no-pair)

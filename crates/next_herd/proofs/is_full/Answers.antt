-- `next_herd::is_full` meets its contract: the comparison is with the herds so far. Assumes nothing.
use borrow.Author.Rules.{rules}
use Rattle.next_herd.proofs.FarmSteps.{full}
use Rattle.next_herd.proofs.is_full.Goals as goal

pub returns : goal.returns
returns c = search (rules, full)

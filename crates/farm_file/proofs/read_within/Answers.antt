-- `farm_file::read_within` meets its contract: 1 comes before all. Assumes nothing.
use borrow.Author.Rules.{rules}
use Rattle.farm_file.proofs.Steps.{read_steps}
use Rattle.farm_file.proofs.read_within.Goals as goal

pub returns-then-limits-s : goal.returns-then-limits-s
returns-then-limits-s c = search (rules, read_steps)

pub returns : goal.returns
returns c = search (rules, read_steps)

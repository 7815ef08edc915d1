-- `farm_file::read` meets its contract: within the limits of the file's source. Assumes nothing.
use borrow.Author.Rules.{rules}
use Rattle.farm_file.proofs.Steps.{read_steps}
use Rattle.farm_file.proofs.read.Goals as goal

pub returns : goal.returns
returns c = search (rules, read_steps)

-- `lent_file::read_for` meets its contract. Assumes nothing.
use borrow.Author.Rules.{rules}
use Rattle.lent_file.proofs.Steps.{read_so}
use Rattle.lent_file.proofs.read_for.Goals as goal

pub returns : goal.returns
returns c = search (rules, read_so)

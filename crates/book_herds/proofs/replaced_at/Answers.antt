-- `book_herds::replaced_at` meets its contract. Assumes nothing.
use borrow.Author.Rules.{rules}
use Rattle.farm.proofs.Left.{length_mapped}
use Rattle.book_herds.proofs.Steps.{edit_steps}
use Rattle.book_herds.proofs.replaced_at.Goals as goal

pub returns : goal.returns
returns c = search (rules, edit_steps, length_mapped)

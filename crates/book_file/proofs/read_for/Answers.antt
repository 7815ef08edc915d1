-- `book_file::read_for` meets its contract. Assumes nothing.
use borrow.Author.Rules.{rules}
use Rattle.book_file.proofs.Reading.{file_steps}
use Rattle.book_file.proofs.read_for.Goals as goal

pub sum_of-requires : goal.sum_of-requires
sum_of-requires c = search (rules, file_steps)

pub totals_from-requires : goal.totals_from-requires
totals_from-requires c = search (rules, file_steps)

pub returns : goal.returns
returns c = search (rules, file_steps)

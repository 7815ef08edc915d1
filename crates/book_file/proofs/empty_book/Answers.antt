-- `book_file::empty_book` meets its contract. Assumes nothing.
use borrow.Author.Rules.{rules}
use Rattle.book_file.proofs.Reading.{empty_steps}
use Rattle.book_file.proofs.empty_book.Goals as goal

pub totals_from-requires : goal.totals_from-requires
totals_from-requires c = search (rules, empty_steps)

pub returns : goal.returns
returns c = search (rules, empty_steps)

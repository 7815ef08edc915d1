-- `book_file::read_book` meets its contract: what is told and what is stored are of what was read. Assumes nothing.
use Rattle.book_file.proofs.Reading.{follows}
use Rattle.book_file.proofs.read_book.Goals as goal

pub returns : goal.returns
returns c =
    follows _ _ _ _ _ c.read_for-read.ensures c.store.ensures c.told.ensures

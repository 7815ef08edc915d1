-- `book_totals::no_totals` meets its contract: the totals of zeros are those of no herd. Assumes nothing.
use borrow.Author.Rules.{rules}
use Rattle.book_totals.proofs.Parts.{part_steps}
use Rattle.book_totals.proofs.no_totals.Goals as goal

pub totals_from-requires : goal.totals_from-requires
totals_from-requires c = search (rules, part_steps)

pub returns : goal.returns
returns c = search (rules, part_steps)

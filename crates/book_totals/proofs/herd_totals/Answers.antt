-- `book_totals::herd_totals` meets its contract: an accepted herd's figures are small. Assumes nothing.
use borrow.Author.Rules.{rules}
use Rattle.book_totals.proofs.Parts.{part_steps}
use Rattle.book_totals.proofs.herd_totals.Goals as goal

pub figures-requires : goal.figures-requires
figures-requires c = search (rules, part_steps)

pub totals_from-requires : goal.totals_from-requires
totals_from-requires c = search (rules, part_steps)

pub returns : goal.returns
returns c = search (rules, part_steps)

-- `book_totals::moved_by` meets its contract: each total moved is the one of its number. Assumes nothing.
use lib.ListN.{length}
use borrow.Author.Rules.{rules}
use Rattle.outputs.specs.Names.{totals}
use Rattle.outputs.proofs.ByNumber.{fill_none, fill_one, fill_all}
use Rattle.book_totals.proofs.Beyond.{within-most}
use Rattle.book_totals.proofs.Parts.{reads_small, gave}
use Rattle.book_totals.proofs.moved_by.Goals as goal

pub loop-i-init : goal.loop-i-init
loop-i-init c = (search rules, fill_none _ _)

pub exchanged-requires : goal.exchanged-requires
exchanged-requires c = (search (rules, reads_small), search (rules, reads_small), search (rules, reads_small))

pub loop-i-preserved : goal.loop-i-preserved
loop-i-preserved c = let p = c.requires in (
  search rules,
  fill_one _ c.loop-i.invariant.1 (search rules) (gave (within-most _ p.0) p.1 p.2 _ _ c.exchanged.ensures),
)

pub returns : goal.returns
returns c = fill_all _ (length totals) c.loop-i.invariant.1 (search rules) c.loop-i.invariant.0

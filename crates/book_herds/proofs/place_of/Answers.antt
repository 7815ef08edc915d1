-- `book_herds::place_of` meets its contract: a herd more has another label, and the last one ends the search. Assumes
-- nothing.
use borrow.Author.Rules.{rules}
use Rattle.farm.proofs.Left.{length_mapped}
use Rattle.book_herds.proofs.Steps.{place_steps}
use Rattle.book_herds.proofs.place_of.Goals as goal

pub loop-i-init : goal.loop-i-init
loop-i-init c = search (rules, place_steps)

pub returns-then-same_label : goal.returns-then-same_label
returns-then-same_label c = search (rules, place_steps, length_mapped)

pub loop-i-preserved : goal.loop-i-preserved
loop-i-preserved c = search (rules, place_steps, length_mapped)

pub returns : goal.returns
returns c = search (rules, place_steps)

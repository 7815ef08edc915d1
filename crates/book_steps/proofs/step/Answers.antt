-- What was decided says what is known of the step, and what it gives. Assumes nothing.
use borrow.Author.Rules.{rules}
use Rattle.farm.proofs.Left.{length_mapped}
use Rattle.book_steps.proofs.Decided.{decided_steps}
use Rattle.book_steps.proofs.step.Goals as goal

pub add-requires : goal.add-requires
add-requires c = search (rules, decided_steps, length_mapped)

pub replace-requires : goal.replace-requires
replace-requires c = search (rules, decided_steps)

pub remove-requires : goal.remove-requires
remove-requires c = search (rules, decided_steps)

pub returns-in-Add : goal.returns-in-Add
returns-in-Add c = search (rules, decided_steps)

pub returns-in-Replace : goal.returns-in-Replace
returns-in-Replace c = search (rules, decided_steps)

pub returns-in-Remove : goal.returns-in-Remove
returns-in-Remove c = search (rules, decided_steps)

pub returns-in-Err : goal.returns-in-Err
returns-in-Err c = search (rules, decided_steps)

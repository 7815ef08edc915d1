-- `values::value_of` meets its contract: form by form, the tests of the definition in its order. Assumes
-- nothing.
use borrow.Author.Rules.{rules}
use Rattle.values.proofs.ValueSteps.{value_steps}
use Rattle.values.proofs.value_of.Goals as goal

pub returns-then-is_standard : goal.returns-then-is_standard
returns-then-is_standard c = search (rules, value_steps)

pub returns-then-is_standard-2 : goal.returns-then-is_standard-2
returns-then-is_standard-2 c = search (rules, value_steps)

pub returns-in-Number : goal.returns-in-Number
returns-in-Number c = search (rules, value_steps)

pub returns-else-is_standard : goal.returns-else-is_standard
returns-else-is_standard c = search (rules, value_steps)

pub returns-else-is_standard-2 : goal.returns-else-is_standard-2
returns-else-is_standard-2 c = search (rules, value_steps)

pub returns-in-Signed : goal.returns-in-Signed
returns-in-Signed c = search (rules, value_steps)

pub returns-in-OneOf : goal.returns-in-OneOf
returns-in-OneOf c = search (rules, value_steps)

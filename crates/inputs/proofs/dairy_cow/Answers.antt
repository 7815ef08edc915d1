-- `inputs::dairy_cow` meets its contract: every row but that of TAN has the name and the form of the one of other
-- cattle. Assumes nothing.
use borrow.Author.Rules.{rules}
use Rattle.inputs.specs.declared.Kind.TheVariants.{DairyCow}
use Rattle.inputs.proofs.Arms.{numbered-at, as-other-cattle}
use Rattle.inputs.proofs.dairy_cow.Goals as goal

pub returns-in-2 : goal.returns-in-2
returns-in-2 c = search (rules, numbered-at DairyCow)

pub returns-in_default : goal.returns-in_default
returns-in_default c = search (rules, as-other-cattle)

-- `inputs::form_of` meets its contract. Assumes nothing.
use borrow.Author.Rules.{rules}
use Rattle.inputs.proofs.Arms.{form_in}
use Rattle.inputs.proofs.form_of.Goals as goal

pub returns : goal.returns
returns c = search (rules, form_in)

-- `herd_inputs::cattle_of` meets its contract: each field is read from its slot. Assumes nothing.
use borrow.Author.Rules.{rules}
use Rattle.typed_inputs.proofs.Fields.{fields}
use Rattle.herd_inputs.proofs.cattle_of.Goals as goal

pub returns : goal.returns
returns c = search (rules, fields)

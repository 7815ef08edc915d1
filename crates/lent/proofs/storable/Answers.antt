-- `lent::storable` meets its contract. Assumes nothing.
use borrow.Author.Rules.{rules}
use Rattle.lent.proofs.Steps.{room_so}
use Rattle.lent.proofs.storable.Goals as goal

pub returns : goal.returns
returns c = search (rules, room_so)

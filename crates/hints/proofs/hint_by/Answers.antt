-- `hints::hint_by` meets its contract: what is read the second time is the mended file. Assumes nothing.
use Rattle.hints.proofs.Rooms.{hint_mended}
use borrow.Author.Rules.{rules}
use Rattle.hints.proofs.hint_by.Goals as goal

pub returns : goal.returns
returns c = search (rules, hint_mended)

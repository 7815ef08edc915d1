-- `mend_print::changes_listed` meets its contract: the list had room for the changes. Assumes nothing.
use Rattle.mend.proofs.Written.{list-room}
use borrow.Author.Rules.{rules}
use Rattle.mend_print.proofs.changes_listed.Goals as goal

pub returns-in-Ok : goal.returns-in-Ok
returns-in-Ok c = search (rules, list-room)

-- `lines_notes::put_note` meets its contract: a comma, and yes or no. Assumes nothing.
use Rattle.base.proofs.Writes.{wrote_as}
use Rattle.lines_notes.proofs.RecordSteps.{noted, not_noted}
use borrow.Author.Rules.{rules}
use Rattle.lines_notes.proofs.put_note.Goals as goal

pub returns-then-noted : goal.returns-then-noted
returns-then-noted c = (wrote_as (noted _ c.if-noted.true) c.put.ensures, search rules)

pub returns-else-noted : goal.returns-else-noted
returns-else-noted c = (wrote_as (not_noted _ c.if-noted.false) c.put-else-noted.ensures, search rules)

-- `lines_notes::put_herd` meets its contract: the record of the notes of the herd's inputs. Assumes nothing.
use Rattle.lines_notes.proofs.HerdSteps.{herd_steps}
use borrow.Author.Rules.{rules}
use Rattle.lines_notes.proofs.put_herd.Goals as goal

pub notes_of-requires : goal.notes_of-requires
notes_of-requires c = search (rules, herd_steps)

pub returns : goal.returns
returns c = search (rules, herd_steps)

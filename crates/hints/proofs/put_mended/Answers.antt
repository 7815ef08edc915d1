-- `hints::put_mended` meets its contract: the text behind the mark, if there is one, is the mended file, and twice the
-- file's length is room for it. Assumes nothing.
use Rattle.hints.proofs.Rooms.{text_steps}
use borrow.Author.Rules.{rules}
use Rattle.hints.proofs.put_mended.Goals as goal

pub put_text-requires : goal.put_text-requires
put_text-requires c = search (rules, text_steps)

pub returns : goal.returns
returns c = search (rules, text_steps)

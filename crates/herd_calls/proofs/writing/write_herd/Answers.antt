-- `herd_calls::writing::write_herd` meets its contract: straight into a buffer that every listing fits, else into one
-- of its own first. Assumes nothing.
use mathlib.Core.Path.{refl}
use Rattle.written.proofs.Answers.{written, handed}
use borrow.Author.Rules.{rules}
use Rattle.herd_calls.proofs.writing.write_herd.Goals as goal

pub returns-then-out-ge-HERD_ROOM : goal.returns-then-out-ge-HERD_ROOM
returns-then-out-ge-HERD_ROOM c = written refl c.put_herd.ensures.0 (search rules)

pub returns-else-out-ge-HERD_ROOM : goal.returns-else-out-ge-HERD_ROOM
returns-else-out-ge-HERD_ROOM c = handed refl c.put_herd-n.ensures.0 (search rules) c.hand_over.ensures

-- `herd_calls::writing::write_totals` meets its contract: straight into a buffer that every listing fits, else into
-- one of its own first. Assumes nothing.
use mathlib.Core.Path.{refl}
use Rattle.written.proofs.Answers.{written, handed}
use borrow.Author.Rules.{rules}
use Rattle.herd_calls.proofs.writing.write_totals.Goals as goal

pub returns-then-out-ge-TOTALS_ROOM : goal.returns-then-out-ge-TOTALS_ROOM
returns-then-out-ge-TOTALS_ROOM c = written refl c.put_total_lines.ensures (search rules)

pub returns-else-out-ge-TOTALS_ROOM : goal.returns-else-out-ge-TOTALS_ROOM
returns-else-out-ge-TOTALS_ROOM c = handed refl c.put_total_lines-n.ensures (search rules) c.hand_over.ensures

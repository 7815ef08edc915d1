-- `lines_notes::put_record` meets its contract: the label's field, the notes, and CRLF. Assumes nothing.
use mathlib.Core.Path.{ap}
use native.Mathlib.Omega.{arith}
use lib.ListN.{length}
use Rattle.base.proofs.Writes.{wrote_as, wrote-append}
use Rattle.lines_notes.proofs.RecordSteps.{record_is}
use Rattle.lines_notes.proofs.put_record.Goals as goal

pub returns : goal.returns
returns c = (
  wrote_as (record_is _ _ c.in_order.ensures)
      (wrote-append (wrote-append c.put_label-a.ensures.0 c.put_notes-b.ensures.0) c.put.ensures),
  omega (
    arith,
    c.put_label-a.ensures.1,
    c.put_notes-b.ensures.1,
    c.put.ensures.past,
    ap length c.in_order.ensures,
  ),
)

-- The fields that are left get fewer by the one that was put. Assumes nothing.
use mathlib.Core.Bool.{false}
use native.Mathlib.Omega.{arith}
use Rattle.base.proofs.ToCome.{begun}
use Rattle.farm.proofs.Left.{left_at, left_end}
use Rattle.line_parts.proofs.OneByOne.{entry-put, all-entries-put}
use Rattle.lines_notes.specs.Records.{note_field}
use borrow.Author.Rules.{rules}
use Rattle.lines_notes.proofs.put_notes.Goals as goal

pub loop-note-init : goal.loop-note-init
loop-note-init c = (begun, search rules)

pub loop-note-preserved : goal.loop-note-preserved
loop-note-preserved c = (
  entry-put note_field c.loop-note.invariant.0 (left_at _ _ false c.loop-note-test.true) c.put_note-next.ensures.0,
  omega (arith, c.loop-note.invariant.1, c.put_note-next.ensures.1),
)

pub shape_of-out : goal.shape_of-out
shape_of-out c = c.loop-note.invariant.0.same

pub returns : goal.returns
returns c = (
  all-entries-put note_field c.loop-note.invariant.0 (left_end _ _ c.loop-note-test.false),
  omega (arith, c.loop-note.auto.note-index-end, c.loop-note.invariant.1),
)

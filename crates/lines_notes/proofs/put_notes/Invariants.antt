-- `lines_notes::put_notes` meets its contract: what is still to be written is the fields of the notes that are left.
-- Assumes nothing.
use Prim.Native.Nat.{◌+◌, ◌*◌, ◌≤◌}
use lib.ListN.{drop}
use Rattle.base.proofs.ToCome.{ToCome}
use Rattle.line_parts.specs.Fields.{each}
use Rattle.lines_notes.specs.Records.{note_field}
use Rattle.lines_notes.specs.Rooms.{longest_note}
use Rattle.lines_notes.proofs.put_notes.Given as goal

abbrev pub invariant-loop-note : goal.invariant-loop-note
invariant-loop-note l =
    ToCome l.initial.out l.at (each note_field l.noted) l.out (each note_field (drop l.note-index l.noted)) l.next
    × (l.next ≤ l.at + l.note-index * longest_note)

-- The record of an accepted herd's notes has its room. Assumes nothing.
use Prim.Native.Nat.{◌*◌, ◌≤◌}
use mathlib.Core.Path.{◌≡◌}
use mathlib.Core.Bool.{Bool, true, false}
use mathlib.Core.List.{List, [], ◌∷◌, ◌++◌}
use native.Mathlib.Omega.{arith}
use lib.ListN.{length, length-append}
use Rattle.base.specs.Text.{bytes}
use Rattle.farm.specs.declared.Herd.{Herd}
use Rattle.farm.specs.Labels.{text}
use Rattle.farm.specs.Answers.{Accepted}
use Rattle.checks.specs.Checks.{check_herd}
use Rattle.checks.proofs.Accepts.{accepted-herd}
use Rattle.notes.specs.Notes.{notes_of, in_order}
use Rattle.typed_inputs.specs.Typed.{typed_of}
use Rattle.line_parts.specs.Fields.{label_field, each}
use Rattle.line_parts.proofs.Lengths.{label-short, field-length}
use Rattle.lines_notes.specs.Records.{note_field, notes_record, herd_notes}
use Rattle.lines_notes.specs.Rooms.{longest_note, longest_record}

note_short : (b : Bool) → length (note_field b) ≤ longest_note
note_short true = omega arith
note_short false = omega arith

notes-short : (bs : List Bool) → length (each note_field bs) ≤ length bs * longest_note
notes-short [] = omega arith
notes-short (b ∷ bs) = omega (arith, length-append (note_field b) (each note_field bs), note_short b, notes-short bs)

pub notes-fit : (h : Herd) → check_herd h ≡ Accepted → length (herd_notes h) ≤ longest_record
unfolding notes_record
notes-fit h e =
    let l = label_field (text h.label) in
    let n = each note_field (in_order (notes_of (typed_of h))) in
    omega (
      arith,
      length-append (l ++ n) (bytes "\r\n"),
      length-append l n,
      field-length (text h.label),
      label-short h.label (accepted-herd h e).label,
      notes-short (in_order (notes_of (typed_of h))),
    )

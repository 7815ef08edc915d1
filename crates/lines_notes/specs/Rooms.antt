-- How long a herd's notes can be: the room that the writers ask for. No reader has to believe it.
use Rattle.std.specs.Prelude.{ℕ, ◌+◌, ◌*◌}
use Rattle.notes.specs.Notes.{note_count}
use Rattle.line_parts.specs.Bounds.{longest_field}

-- a comma and `yes`
abbrev pub longest_note : ℕ
longest_note = 4

-- the label's field, the notes, CRLF
abbrev pub longest_record : ℕ
longest_record = longest_field + note_count * longest_note + 2

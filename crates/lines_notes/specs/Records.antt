-- A herd's notes as a record: its label, quoted as in the listing, then `yes` or `no` for each of 01's
-- notes in their order and for that of 02, W3, and CRLF, as in `Heifers,no,no,no,yes,no`. To be believed.
use Rattle.std.specs.Prelude.{ℕ, Bool, true, false, List, ◌∷◌, ◌++◌, map}
use Rattle.base.specs.Text.{bytes}
use Rattle.farm.specs.declared.Herd.{Herd}
use Rattle.farm.specs.Labels.{text}
use Rattle.notes.specs.declared.Notes.{Notes}
use Rattle.notes.specs.Notes.{notes_of, in_order}
use Rattle.typed_inputs.specs.Typed.{typed_of}
use Rattle.line_parts.specs.Fields.{label_field, each}

abbrev pub word : Bool → List ℕ
word true = bytes "yes"
word false = bytes "no"

-- a note as a further field
abbrev pub note_field : Bool → List ℕ
note_field b = bytes "," ++ word b

unfoldable pub notes_record : List ℕ → Notes → List ℕ
notes_record label n = label_field label ++ each note_field (in_order n) ++ bytes "\r\n"

-- the record of a herd
abbrev pub herd_notes : Herd → List ℕ
herd_notes h = notes_record (text h.label) (notes_of (typed_of h))

-- what it says as a record: six fields
abbrev pub herd_fields : Herd → List (List ℕ)
herd_fields h = text h.label ∷ map word (in_order (notes_of (typed_of h)))

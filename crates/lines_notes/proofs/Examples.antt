-- Records of notes as they are printed: each note alone, and one whose label has a comma. Assumes nothing.
use Prim.Native.String.{String}
use mathlib.Core.Path.{◌≡◌, refl}
use mathlib.Core.Bool.{true, false}
use mathlib.Core.List.{List, [], ◌∷◌}
use Rattle.base.specs.Text.{bytes}
use Rattle.notes.specs.declared.Notes.{Notes}
use Rattle.notes.specs.Notes.{noted}
use Rattle.line_parts.specs.Fields.{has_comma, label_field, each}
use Rattle.lines_notes.specs.Records.{notes_record}

-- a label, and the one note that its herd gets: the four of 01 in its order, and that of 02, W3
abbrev herds : List (String × Notes)
herds =
    ("Deer", noted true false false false false)  -- N off standard
    ∷ ("Lamas", noted false true false false false)  -- TAN off standard
    ∷ ("Pigs", noted false false true false false)  -- a free factor
    ∷ ("Heifers", noted false false false true false)  -- the share lowered
    ∷ ("Wapiti", noted false false false false true)  -- the factor above 1
    ∷ []

pub each_in_its_field : each (λ (h : String × Notes). notes_record (bytes h.0) h.1) herds
    ≡ each bytes
    ("Deer,yes,no,no,no,no\r\n"
    ∷ "Lamas,no,yes,no,no,no\r\n"
    ∷ "Pigs,no,no,yes,no,no\r\n"
    ∷ "Heifers,no,no,no,yes,no\r\n"
    ∷ "Wapiti,no,no,no,no,yes\r\n"
    ∷ [])
unfolding notes_record label_field has_comma
each_in_its_field = refl

pub comma-noted : notes_record (bytes "A,B") (noted true false false false true) ≡ bytes "\"A,B\",yes,no,no,no,yes\r\n"
unfolding notes_record label_field has_comma
comma-noted = refl

-- An accepted herd's notes are an RFC 4180 record of six fields, ended by CRLF. Assumes nothing.
use Prim.Native.Nat.{ℕ}
use mathlib.Core.Path.{◌≡◌, refl, sym, subst}
use mathlib.Core.Bool.{Bool, true, false}
use mathlib.Core.List.{List, [], ◌∷◌, ◌++◌, map, append-nil}
use Rattle.grammar.specs.Grammar.{Plain, FieldOf, RecordOf}
use Rattle.farm.specs.declared.Herd.{Herd}
use Rattle.farm.specs.Labels.{text, label_ok}
use Rattle.notes.specs.Notes.{notes_of, in_order}
use Rattle.typed_inputs.specs.Typed.{typed_of}
use Rattle.line_parts.specs.Fields.{each}
use Rattle.line_parts.proofs.Records.{good-bytes, label-field}
use Rattle.record_lines.specs.Records.{RecordsOf}
use Rattle.record_lines.proofs.Plain.{past-plain}
use Rattle.record_lines.proofs.Records.{line}
use Rattle.lines_notes.specs.Records.{word, note_field, notes_record, herd_notes, herd_fields}

word-plain : (b : Bool) → Plain (word b)
word-plain true = past-plain _ refl
word-plain false = past-plain _ refl

-- the notes as further fields of a record
further : {c t : List ℕ} → FieldOf c t → (bs : List Bool) → RecordOf (c ∷ map word bs) (t ++ each note_field bs)
further {c} {t} f [] = subst (RecordOf (c ∷ [])) (sym (append-nil t)) (RecordOf.last f)
further {c} {t} f (b ∷ bs) = RecordOf.more f (further (FieldOf.plain (word-plain b)) bs)

pub notes-read : (h : Herd) → label_ok h.label ≡ true → RecordsOf 6 (herd_fields h ∷ []) (herd_notes h)
unfolding notes_record
notes-read h ok =
    line (further (label-field (text h.label) (good-bytes h.label ok)) (in_order (notes_of (typed_of h)))) refl refl

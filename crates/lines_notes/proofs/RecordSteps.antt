-- A herd's record of notes: what its parts are as the code writes them. Assumes nothing.
use Prim.Native.Nat.{ℕ}
use mathlib.Core.Path.{◌≡◌}
use mathlib.Core.Bool.{Bool, true, false}
use mathlib.Core.List.{List, [], ◌∷◌, ◌++◌}
use Rattle.base.specs.Text.{bytes}
use Rattle.notes.specs.declared.Notes.{Notes}
use Rattle.notes.specs.Notes.{in_order}
use Rattle.line_parts.specs.Fields.{label_field, each}
use Rattle.lines_notes.specs.Records.{note_field, notes_record}

module _ (b : Bool) where
  pub noted : b ≡ true → bytes ",yes" ≡ note_field b
  noted e = rw e

  pub not_noted : b ≡ false → bytes ",no" ≡ note_field b
  not_noted e = rw e

pub record_is : {bs : List Bool} (label : List ℕ) (n : Notes) → bs ≡ in_order n
    → label_field label ++ each note_field bs ++ (13 ∷ 10 ∷ []) ≡ notes_record label n
unfolding notes_record
record_is label n e = rw e

-- The parts of a record: module and name of its input, from the table of its kind, and how long it is. Assumes nothing.
use Prim.Native.Nat.{ℕ, zero, suc, ◌+◌, ◌≤◌, ◌<◌}
use mathlib.Core.Path.{◌≡◌, refl, ap}
use mathlib.Core.Bool.{Bool, true}
use mathlib.Core.List.{List, [], ◌∷◌, ◌++◌, map}
use native.Mathlib.Omega.{arith}
use borrow.Author.Tests.{leb-true}
use lib.Dec.{leb}
use lib.ListN.{length, get_or, length-append}
use Rattle.base.specs.Runs.{all}
use Rattle.base.specs.Wrote.{Wrote}
use Rattle.base.proofs.Holds.{both_true}
use Rattle.base.proofs.Writes.{wrote_as}
use Rattle.words.specs.Find.{words_of}
use Rattle.inputs.specs.declared.Kind.{Kind}
use Rattle.inputs.specs.declared.Kind.TheVariants.{Roughage, Cattle, Pigs, DairyCow}
use Rattle.inputs.specs.Inputs.{Row, rows_of, count_of, last_of, row_at}
use Rattle.line_parts.specs.Bounds.{longest_field}
use Rattle.line_parts.specs.Fields.{label_field}
use Rattle.word_texts.specs.Words.{word_at}
use Rattle.file_text.specs.Files.{input_text, record_text}

-- ---- module and name

text_at_lem : (rows : List Row) (d : Row) (slot : ℕ) → slot < length rows
    → get_or (map input_text rows) slot [] ≡ input_text (get_or rows slot d)
text_at_lem [] d slot h = absurd (omega arith)
text_at_lem (row ∷ rows) d zero h = refl
text_at_lem (row ∷ rows) d (suc slot) h = text_at_lem rows d slot (omega arith)

module _ (kind : Kind) (slot : ℕ) (b : slot < count_of kind) {k : Kind} (words lengths : List ℕ) (e : kind ≡ k)
    (w : words_of words lengths ≡ map input_text (rows_of k)) where
  input-is : word_at words lengths slot ≡ input_text (row_at kind slot)
  unfolding word_at
  input-is = rw (w, ← e) (text_at_lem (rows_of kind) (last_of (rows_of kind)) slot b)

  pub input-room : (at n : ℕ) → at + length (input_text (row_at kind slot)) ≤ n
      → at + length (word_at words lengths slot) ≤ n
  input-room at n h = omega (arith, h, ap length input-is)

  pub input-put : {old new : List ℕ} {at next : ℕ} → Wrote old at (word_at words lengths slot) new next
      → Wrote old at (input_text (row_at kind slot)) new next
  input-put x = wrote_as input-is x

pub ruleset input_steps = (input-room, input-put)

-- ---- the record

-- module and name are longer than any label's field
abbrev is_long : Row → Bool
is_long row = leb longest_field (length (input_text row))

inputs_long : (k : Kind) → all is_long (rows_of k) ≡ true
unfolding input_text
inputs_long Roughage = refl
inputs_long Cattle = refl
inputs_long Pigs = refl
inputs_long DairyCow = refl

long-at : (rows : List Row) (d : Row) (slot : ℕ) → all is_long rows ≡ true → slot < length rows
    → longest_field ≤ length (input_text (get_or rows slot d))
long-at [] d slot e h = absurd (omega arith)
long-at (row ∷ rows) d zero e h =
    leb-true longest_field (length (input_text row)) (both_true (is_long row) (all is_long rows) e).0
long-at (row ∷ rows) d (suc slot) e h =
    long-at rows d slot (both_true (is_long row) (all is_long rows) e).1 (omega arith)

pub input-long : (k : Kind) (slot : ℕ) → slot < count_of k → longest_field ≤ length (input_text (row_at k slot))
input-long k slot b = long-at (rows_of k) (last_of (rows_of k)) slot (inputs_long k) b

pub record_length : (label : List ℕ) (row : Row) (value : List ℕ)
    → length (record_text label row value)
    ≡ length (label_field label) + 1 + length (input_text row) + 1 + length value + 2
unfolding record_text
record_length label row value = simp length-append (omega arith)

-- as its parts are put, one after the other
pub record_is : (label : List ℕ) (row : Row) (value : List ℕ)
    → label_field label ++ (44 ∷ []) ++ input_text row ++ (44 ∷ []) ++ value ++ (13 ∷ 10 ∷ [])
    ≡ record_text label row value
unfolding record_text
record_is label row value = refl

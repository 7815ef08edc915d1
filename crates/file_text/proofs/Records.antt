-- The file of herds with good labels is RFC 4180 records of four fields, each ended by CRLF: those of specs/Records.
-- Assumes nothing.
use Prim.Native.Nat.{ℕ}
use mathlib.Core.Path.{◌≡◌, refl}
use mathlib.Core.Bool.{Bool, true, ◌&&◌}
use mathlib.Core.List.{List, [], ◌∷◌, ◌++◌, append_assoc, append-nil}
use Rattle.base.specs.Each.{Each, none, more}
use Rattle.base.specs.Runs.{all}
use Rattle.base.specs.Text.{bytes}
use Rattle.base.proofs.Holds.{both_true}
use Rattle.grammar.specs.Grammar.{cr, lf, Plain, FileOf}
use Rattle.grammar.proofs.Written.{behind_commas, record_written}
use Rattle.record_lines.specs.Records.{RecordsOf}
use Rattle.record_lines.proofs.Plain.{all_past, past-plain}
use Rattle.record_lines.proofs.Records.{no-records, line, both, are-a-file}
use Rattle.inputs.specs.declared.Kind.{Kind}
use Rattle.inputs.specs.declared.Kind.TheVariants.{Roughage, Cattle, Pigs, DairyCow}
use Rattle.inputs.specs.Inputs.{Row, rows_of}
use Rattle.farm.specs.declared.Slot.{Slot}
use Rattle.farm.specs.declared.Herd.{Herd}
use Rattle.farm.specs.Labels.{all_ok, text, label_ok}
use Rattle.line_parts.specs.Fields.{label_field}
use Rattle.line_parts.proofs.Records.{good-bytes, label-field, records}
use Rattle.value_texts.proofs.Plain.{value-plain}
use Rattle.file_text.specs.Files.{input_text, record_text, inputs_text, herd_file, file_of}
use Rattle.file_text.specs.Records.{fields_of, input_records, herd_records, records_of}

-- ---- modules and names need no quotes

abbrev needs_none : Row → Bool
needs_none row = all_past (bytes row.path) && all_past (bytes row.name)

rows-plain : (k : Kind) → all needs_none (rows_of k) ≡ true
rows-plain Roughage = refl
rows-plain Cattle = refl
rows-plain Pigs = refl
rows-plain DairyCow = refl

-- ---- a record

record_is : (label : List ℕ) (row : Row) (value : List ℕ)
    → record_text label row value
    ≡ (label_field label ++ behind_commas (bytes row.path ∷ bytes row.name ∷ value ∷ [])) ++ (cr ∷ lf ∷ [])
unfolding record_text input_text
record_is label row value = simp (append_assoc, append-nil)

record_read_lem : (label : List ℕ) → all_ok label ≡ true → (row : Row) → needs_none row ≡ true → {value : List ℕ}
    → Plain value → RecordsOf 4 (fields_of label row value ∷ []) (record_text label row value)
record_read_lem label good row plain {value} p =
    let h = both_true (all_past (bytes row.path)) (all_past (bytes row.name)) plain in
    line
    (record_written (label-field label good)
    (more (past-plain (bytes row.path) h.0) (more (past-plain (bytes row.name) h.1) (more p none))))
    refl (record_is label row value)

-- ---- a herd, and a file

inputs_read : (label : List ℕ) → all_ok label ≡ true → (rows : List Row) (slots : List Slot)
    → all needs_none rows ≡ true → RecordsOf 4 (input_records label rows slots) (inputs_text label rows slots)
unfolding inputs_text
inputs_read label good [] slots e = no-records
inputs_read label good (row ∷ rows) [] e = no-records
inputs_read label good (row ∷ rows) (s ∷ slots) e =
    let h = both_true (needs_none row) (all needs_none rows) e in
    both (record_read_lem label good row h.0 (value-plain row.form s.given))
    (inputs_read label good rows slots h.1)

pub herd-read : (h : Herd) → label_ok h.label ≡ true → RecordsOf 4 (herd_records h) (herd_file h)
unfolding herd_file
herd-read h good =
    inputs_read (text h.label) (good-bytes h.label good) (rows_of h.kind) h.slots (rows-plain h.kind)

pub file-read : {hs : List Herd} → Each (λ h. label_ok h.label ≡ true) hs → RecordsOf 4 (records_of hs) (file_of hs)
unfolding file_of
file-read good = records herd_records herd_file herd-read good

-- What is written is a file of the grammar, of these records.
pub written_grammar : {hs : List Herd} → Each (λ h. label_ok h.label ≡ true) hs → FileOf (records_of hs) (file_of hs)
written_grammar good = are-a-file (file-read good)

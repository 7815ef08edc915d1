-- The file of a farm's herds as RFC 4180 records: the fields of each. proofs/Records shows that the file is these. To
-- be believed.
use Rattle.std.specs.Prelude.{ℕ, List, [], ◌∷◌}
use Rattle.base.specs.Text.{bytes}
use Rattle.inputs.specs.Inputs.{Row, rows_of}
use Rattle.farm.specs.declared.Slot.{Slot}
use Rattle.farm.specs.declared.Herd.{Herd}
use Rattle.farm.specs.Labels.{text}
use Rattle.line_parts.specs.Fields.{each}
use Rattle.value_texts.specs.Values.{value_text}

-- "herd label, module path, input name, value"
abbrev pub fields_of : List ℕ → Row → List ℕ → List (List ℕ)
fields_of label row value = label ∷ bytes row.path ∷ bytes row.name ∷ value ∷ []

abbrev pub input_records : List ℕ → List Row → List Slot → List (List (List ℕ))
input_records label [] slots = []
input_records label (row ∷ rows) [] = []
input_records label (row ∷ rows) (s ∷ slots) =
    fields_of label row (value_text row.form s.given) ∷ input_records label rows slots

abbrev pub herd_records : Herd → List (List (List ℕ))
herd_records h = input_records (text h.label) (rows_of h.kind) h.slots

abbrev pub records_of : List Herd → List (List (List ℕ))
records_of hs = each herd_records hs

-- 02, W5: "From a farm record write the RFC 4180 file: herds in order, inputs in the order of 01's list, .., quotes
-- only round a label with a comma." A record for each input, ended by CRLF; 01, The farm file: "Each record has four
-- fields: herd label, module path, input name, value". It goes by the list of inputs, and no kind has a clause of its
-- own. To be believed.
use Rattle.std.specs.Prelude.{ℕ, List, [], ◌∷◌, ◌++◌}
use Rattle.base.specs.Text.{bytes}
use Rattle.inputs.specs.Inputs.{Row, rows_of}
use Rattle.farm.specs.declared.Slot.{Slot}
use Rattle.farm.specs.declared.Herd.{Herd}
use Rattle.farm.specs.Labels.{text}
use Rattle.line_parts.specs.Fields.{label_field, each}
use Rattle.value_texts.specs.Values.{value_text}

-- the input of a record: its module, a comma, and its name
unfoldable pub input_text : Row → List ℕ
input_text row = bytes row.path ++ bytes "," ++ bytes row.name

-- the record that gives a herd of this label an input
unfoldable pub record_text : List ℕ → Row → List ℕ → List ℕ
record_text label row value = label_field label ++ bytes "," ++ input_text row ++ bytes "," ++ value ++ bytes "\r\n"

-- a record for each of the inputs, with what stands in its slot
unfoldable pub inputs_text : List ℕ → List Row → List Slot → List ℕ
inputs_text label [] slots = []
inputs_text label (row ∷ rows) [] = []
inputs_text label (row ∷ rows) (s ∷ slots) =
    record_text label row (value_text row.form s.given) ++ inputs_text label rows slots

-- the records of a herd
unfoldable pub herd_file : Herd → List ℕ
herd_file h = inputs_text (text h.label) (rows_of h.kind) h.slots

-- the file of a farm's herds
unfoldable pub file_of : List Herd → List ℕ
file_of hs = each herd_file hs

-- 01, The listing, byte by byte: "RFC 4180 again, CRLF after every record: label, module, output name, kilograms with
-- exactly three decimals, `-` in front only below zero. A label with a comma is quoted, no other field is."
use Rattle.std.specs.Prelude.{ℕ, List, [], ◌++◌, ℤ}
use Prim.Native.String.{String}
use Rattle.base.specs.Text.{bytes}
use Rattle.kilogram_text.specs.Kilograms.{kilograms_of}
use Rattle.inputs.specs.declared.Kind.{Kind}
use Rattle.farm.specs.declared.Label.{Label}
use Rattle.farm.specs.Labels.{text}
use Rattle.outputs.specs.declared.Figures.{Figures}
use Rattle.outputs.specs.declared.Totals.{Totals}
use Rattle.outputs.specs.Names.{section_of, total_texts}
use Rattle.outputs.specs.Grams.{figure, total}
use Rattle.line_parts.specs.Fields.{label_field, each}
use Rattle.line_parts.specs.Paths.{path_of}
use Rattle.listing.specs.HerdLines.{lines_of}

-- a record: label, module, output name, kilograms
unfoldable pub line_of : List ℕ → List ℕ → List ℕ → ℤ → List ℕ
line_of label path name grams =
    label_field label ++ bytes "," ++ path ++ bytes "," ++ name ++ bytes "," ++ kilograms_of grams ++ bytes "\r\n"

-- ---- a herd

-- the module that a herd's line stands under
abbrev pub module_of : Kind → String → List ℕ
module_of k n = bytes (path_of k) ++ bytes "::" ++ bytes (section_of n)

abbrev pub herd_line : List ℕ → Kind → Figures → String → List ℕ
herd_line label k f n = line_of label (module_of k n) (bytes n) (figure n f)

-- a herd's lines, by the bytes of its label
unfoldable pub herd_lines : List ℕ → Kind → Figures → List ℕ
herd_lines label k f = each (herd_line label k f) (lines_of k)

-- a herd's listing
abbrev pub herd_listing : Label → Kind → Figures → List ℕ
herd_listing l k f = herd_lines (text l) k f

-- ---- the totals: "empty label, module `Livestock`"

abbrev pub total_path : String
total_path = "Livestock"

abbrev pub total_line : Totals → String → List ℕ
total_line t n = line_of [] (bytes total_path) (bytes n) (total n t)

-- the totals' listing, in the order in which `outputs` has them, which is 01's
unfoldable pub totals_listing : Totals → List ℕ
totals_listing t = each (total_line t) total_texts

-- 01, The listing: what it says as a file, its records, each of four fields.
use Rattle.std.specs.Prelude.{ℕ, List, [], ◌∷◌, map, ℤ}
use Prim.Native.String.{String}
use Rattle.base.specs.Text.{bytes}
use Rattle.kilogram_text.specs.Kilograms.{kilograms_of}
use Rattle.inputs.specs.declared.Kind.{Kind}
use Rattle.farm.specs.declared.Label.{Label}
use Rattle.farm.specs.Labels.{text}
use Rattle.outputs.specs.declared.Figures.{Figures}
use Rattle.outputs.specs.declared.Totals.{Totals}
use Rattle.outputs.specs.Names.{total_texts}
use Rattle.outputs.specs.Grams.{figure, total}
use Rattle.listing.specs.HerdLines.{lines_of}
use Rattle.listing.specs.Listing.{module_of, total_path}

-- label, module, output name, kilograms
abbrev pub fields_of : List ℕ → List ℕ → List ℕ → ℤ → List (List ℕ)
fields_of label path name grams = label ∷ path ∷ name ∷ kilograms_of grams ∷ []

abbrev pub herd_records : Label → Kind → Figures → List (List (List ℕ))
herd_records l k f = map (λ (n : String). fields_of (text l) (module_of k n) (bytes n) (figure n f)) (lines_of k)

abbrev pub total_records : Totals → List (List (List ℕ))
total_records t = map (λ (n : String). fields_of [] (bytes total_path) (bytes n) (total n t)) total_texts

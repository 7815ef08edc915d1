-- 02, W7: a herd's cuts as records, as in `Heifers,Livestock::OtherCattle::Yard,n_into_yard,150,3650`: label, quoted as
-- in the listing, module as in the listing, name, what was cut off, divisor; CRLF. A name under which no cut was made
-- has none. To be believed.
use Rattle.std.specs.Prelude.{ℕ, List, [], ◌++◌, map, get_or}
use Prim.Native.String.{String}
use Rattle.base.specs.Pick.{pick}
use Rattle.base.specs.Text.{bytes}
use Rattle.decimal.specs.Writing.{whole_of}
use Rattle.inputs.specs.declared.Kind.{Kind}
use Rattle.farm.specs.declared.Label.{Label}
use Rattle.farm.specs.declared.Herd.{Herd}
use Rattle.farm.specs.Labels.{text}
use Rattle.typed_inputs.specs.Typed.{typed_of}
use Rattle.line_parts.specs.Fields.{label_field, each}
use Rattle.line_parts.specs.Paths.{path_of}
use Rattle.cuts.specs.declared.Cuts.{Cuts}
use Rattle.cuts.specs.Names.{Row, rows, texts, cut_number}
use Rattle.cuts.specs.Cuts.{cut_off, divisor_of, is_made}
use Rattle.cuts.specs.Herd.{cuts_of}

-- what was cut off, divisor
unfoldable pub numbers_of : ℕ → ℕ → List ℕ
numbers_of off by = whole_of off ++ bytes "," ++ whole_of by ++ bytes "\r\n"

-- label, module, name, and these
unfoldable pub cut_line : List ℕ → List ℕ → List ℕ → ℕ → ℕ → List ℕ
cut_line label path name off by =
    label_field label ++ bytes "," ++ path ++ bytes "," ++ name ++ bytes "," ++ numbers_of off by

-- the module that a cut stands under
abbrev pub module_of : Kind → String → List ℕ
module_of k t = bytes (path_of k) ++ bytes "::" ++ bytes (get_or (map (λ (r : Row). r.section) rows) (cut_number t) "")

-- the record of a name
abbrev pub cut_record : List ℕ → Kind → Cuts → String → List ℕ
cut_record label k c t = pick (is_made c t) (cut_line label (module_of k t) (bytes t) (cut_off t c) (divisor_of t c)) []

-- a herd's records, by the bytes of its label
unfoldable pub cut_lines : List ℕ → Kind → Cuts → List ℕ
cut_lines label k c = each (cut_record label k c) texts

abbrev pub cuts_listing : Label → Kind → Cuts → List ℕ
cuts_listing l k c = cut_lines (text l) k c

-- the records of a herd's record
abbrev pub herd_cut_lines : Herd → List ℕ
herd_cut_lines h = cuts_listing h.label h.kind (cuts_of (typed_of h))

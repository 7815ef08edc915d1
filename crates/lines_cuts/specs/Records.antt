-- A herd's cuts as records: label, module, name, what was cut off, divisor; one for each name under which a cut was
-- made. To be believed.
use Rattle.std.specs.Prelude.{ℕ, List, [], ◌∷◌, map}
use Prim.Native.String.{String}
use Rattle.base.specs.Text.{bytes}
use Rattle.decimal.specs.Writing.{whole_of}
use Rattle.inputs.specs.declared.Kind.{Kind}
use Rattle.farm.specs.declared.Herd.{Herd}
use Rattle.farm.specs.Labels.{text}
use Rattle.typed_inputs.specs.Typed.{typed_of}
use Rattle.cuts.specs.declared.Cuts.{Cuts}
use Rattle.cuts.specs.Cuts.{cut_off, divisor_of, names_made}
use Rattle.cuts.specs.Herd.{cuts_of}
use Rattle.lines_cuts.specs.Lines.{module_of}

abbrev pub cut_fields : List ℕ → Kind → Cuts → String → List (List ℕ)
cut_fields label k c t = label ∷ module_of k t ∷ bytes t ∷ whole_of (cut_off t c) ∷ whole_of (divisor_of t c) ∷ []

abbrev pub herd_cut_records : Herd → List (List (List ℕ))
herd_cut_records h = let c = cuts_of (typed_of h) in map (cut_fields (text h.label) h.kind c) (names_made c)

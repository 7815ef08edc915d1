-- The listing as the code goes about it: by the numbers of names and lists, with texts from tables. No reader has to
-- believe it: proofs/AsListed.antt shows that it is 01's listing.
use Rattle.std.specs.Prelude.{ℕ, List, [], ◌∷◌, ◌++◌, map}
use Prim.Native.String.{String}
use Rattle.base.specs.Text.{bytes}
use Rattle.inputs.specs.declared.Kind.{Kind}
use Rattle.inputs.specs.declared.Kind.TheVariants.{Roughage, Cattle, Pigs, DairyCow}
use Rattle.outputs.specs.Names.{Row, rows, number, total_texts}
use Rattle.line_parts.specs.Middles.{Entry}
use Rattle.listing.specs.HerdLines.{lines_of}

-- the numbers of the names that a kind lists, list by list; both kinds with a yard have one
abbrev pub listed : List (List ℕ)
listed = map (λ (k : Kind). map number (lines_of k)) (Roughage ∷ Cattle ∷ Pigs ∷ [])

abbrev pub list_number : Kind → ℕ
list_number Roughage = 0
list_number Cattle = 1
list_number Pigs = 2
list_number DairyCow = 1

-- what stands in a line between its owner and its amount, by the number of the name
abbrev pub herd_entries : List Entry
herd_entries = map (λ (r : Row). record { under = bytes "::" ++ bytes r.section; name = bytes r.text }) rows

abbrev pub total_entries : List Entry
total_entries = map (λ (t : String). record { under = []; name = bytes t }) total_texts

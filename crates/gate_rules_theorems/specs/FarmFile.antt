-- 02, W10: what a log comes to is put into a farm file. What is printed, record by record, and which inputs of 01's
-- list take it there: those of its name. To be believed.
use Rattle.std.specs.Prelude.{ℕ, suc, ◌≤◌, List, [], ◌∷◌, map}
use Prim.Native.String.{String}
use lib.Text.{eqt}
use Rattle.base.specs.Pick.{pick}
use Rattle.base.specs.Text.{bytes}
use Rattle.base.specs.Each.{Each}
use Rattle.decimal.specs.Writing.{whole_of}
use Rattle.inputs.specs.declared.Kind.{Kind}
use Rattle.inputs.specs.Inputs.{Row, rows_of, kinds, row_at}
use Rattle.farm.specs.declared.Given.TheVariants.{Value}
use Rattle.first_refusal.specs.Records.{Record}
use Rattle.record_lines.specs.Records.{RecordsOf}
use Rattle.line_parts.specs.Fields.{each}
use Rattle.rules_theorems.specs.Rules.{RecordSays}
use Rattle.outdoors.specs.declared.Outdoors.{Outdoors}
use Rattle.lines_outdoors.specs.Lines.{tenths_of}

-- days and hours as a farm file may have them, hours in tenths
pub record Fits (o : Outdoors) : Type 0 where
  pub grazing : o.grazing_days ≤ 365
  pub yard : o.yard_days ≤ 365
  pub hours : o.grazing_hours ≤ 240

-- ---- what is printed

-- an input's name, the text of its value, and the number that it stands for
pub record Printed : Type 0 where
  pub name : String
  pub text : List ℕ
  pub value : ℕ

-- days as a whole number, hours with one decimal
abbrev pub days : String → ℕ → Printed
days t n = record { name = t; text = whole_of n; value = n }

abbrev pub hours : String → ℕ → Printed
hours t n = record { name = t; text = tenths_of n; value = n }

abbrev pub printed_of : Outdoors → List Printed
printed_of o =
    days "grazing_days" o.grazing_days
    ∷ days "yard_days" o.yard_days
    ∷ hours "grazing_hours" o.grazing_hours
    ∷ []

-- two fields: name, value
abbrev pub record_of : Printed → Record
record_of p = bytes p.name ∷ p.text ∷ []

-- ---- the inputs that take it

-- an input of the list
pub record Input : Type 0 where
  pub kind : Kind
  pub slot : ℕ

-- those of a name among a kind's rows, from this slot on
abbrev named : String → Kind → ℕ → List Row → List Input
named t k slot [] = []
named t k slot (r ∷ rs) =
    pick (eqt t r.name) (record { kind = k; slot = slot } ∷ named t k (suc slot) rs) (named t k (suc slot) rs)

abbrev pub inputs_named : String → List Input
inputs_named t = each (λ (k : Kind). named t k 0 (rows_of k)) kinds

-- a farm file takes it for the input: a herd's label, the input's module, and then the record as it is printed
abbrev pub Takes : List ℕ → Printed → Input → Type 0
Takes label p i =
    RecordSays (label ∷ bytes (row_at i.kind i.slot).path ∷ record_of p) label i.kind i.slot
    (Value p.value)

-- the text is these records, and a farm file takes each for every input of its name
pub record TakesAll (label : List ℕ) (ps : List Printed) (text : List ℕ) : Type 0 where
  pub printed : RecordsOf 2 (map record_of ps) text
  pub taken : Each (λ p. Each (Takes label p) (inputs_named p.name)) ps

-- What a record says by itself: its label, the input that it names and the value that it gives; and refusals 3 to 7
-- (01, Refusal numbers). It mirrors the code for its contracts; what these mean is said of the records in
-- `rules_theorems/specs`, and proved to be the same there.
use Rattle.std.specs.Prelude.{ℕ, ◌<◌, Bool, true, false, not, List, [], ◌∷◌, drop, eqb, Err, None, Ok, Some, Result}
use Rattle.base.specs.First.{Test, ◌when◌, first}
use Rattle.grammar.specs.Reading.{Parts}
use Rattle.inputs.specs.declared.Kind.{Kind}
use Rattle.inputs.specs.declared.Kind.TheVariants.{Roughage}
use Rattle.inputs.specs.declared.Form.{Form}
use Rattle.inputs.specs.Inputs.{no_row}
use Rattle.finding.specs.Find.{find_input, FoundInput}
use Rattle.farm.specs.declared.Label.{Label}
use Rattle.farm.specs.declared.Given.{Given}
use Rattle.farm.specs.declared.Given.TheVariants.{Missing}
use Rattle.farm.specs.declared.Refusal.{Refusal}
use Rattle.farm.specs.declared.Refusal.TheVariants.{NotFourFields, BadLabel, NotInTheList, StandardForbidden, BadValue}
use Rattle.farm.specs.Limits.{slots}
use Rattle.farm.specs.Labels.{label_ok, label_of}
use Rattle.records.specs.declared.Entry.{Entry}
use Rattle.values.specs.Values.{value_of}
use Rattle.number_values.specs.Numbers.{ValueRead}
use Rattle.number_values.specs.declared.ValueFault.TheVariants.{Forbidden, Unfit}

-- what a record says by itself: a value for the input of a kind and a slot, or what is wrong with it
abbrev pub RecordRead : Type 0
RecordRead = Result (Kind × ℕ × Given) Refusal

-- the label that a record has
abbrev pub label_in : Parts → Label
label_in x = label_of x.first

-- the input that it names, by its kind and slot, and how its value reads
abbrev pub is_nowhere : FoundInput → Bool
is_nowhere (Some (kind, slot, form)) = false
is_nowhere None = true

abbrev pub kind_by : FoundInput → Kind
kind_by (Some (kind, slot, form)) = kind
kind_by None = Roughage

abbrev pub slot_by : FoundInput → ℕ
slot_by (Some (kind, slot, form)) = slot
slot_by None = 0

abbrev pub form_by : FoundInput → Form
form_by (Some (kind, slot, form)) = form
form_by None = no_row.form

abbrev pub found_in : Parts → FoundInput
found_in x = find_input x.second x.third

abbrev pub kind_in : Parts → Kind
kind_in x = kind_by (found_in x)

abbrev pub slot_in : Parts → ℕ
slot_in x = slot_by (found_in x)

-- what its value says
abbrev pub value_read_in : Parts → ValueRead
value_read_in x = value_of (form_by (found_in x)) x.fourth

abbrev pub is_forbidden : ValueRead → Bool
is_forbidden (Ok g) = false
is_forbidden (Err Forbidden) = true
is_forbidden (Err Unfit) = false

abbrev pub is_unfit : ValueRead → Bool
is_unfit (Ok g) = false
is_unfit (Err Forbidden) = false
is_unfit (Err Unfit) = true

abbrev pub given_by : ValueRead → Given
given_by (Ok g) = g
given_by (Err Forbidden) = Missing
given_by (Err Unfit) = Missing

abbrev pub given_in : Parts → Given
given_in x = given_by (value_read_in x)

-- 3 to 7, in that order; `refuse` makes the answer of a fault
abbrev pub entry_tests : {A : Type 0} → (Refusal → A) → Parts → List (Test A)
entry_tests refuse x =
    refuse NotFourFields when not (eqb x.count 4)
    ∷ refuse BadLabel when not (label_ok (label_in x))
    ∷ refuse NotInTheList when is_nowhere (found_in x)
    ∷ refuse StandardForbidden when is_forbidden (value_read_in x)
    ∷ refuse BadValue when is_unfit (value_read_in x)
    ∷ []

unfoldable pub record_read : Parts → RecordRead
record_read x = first (entry_tests Err x) (Ok (kind_in x, slot_in x, given_in x))

-- where 3 and 4 do not apply: the tests from 5 on
unfoldable pub input_read : Parts → RecordRead
input_read x = first (drop 2 (entry_tests Err x)) (Ok (kind_in x, slot_in x, given_in x))

unfoldable pub entry_of : Parts → Entry
entry_of x = record { label = label_in x; read = record_read x }

-- what a record gives has a slot
pub data HasSlot : RecordRead → Type 0 where
  wrong : {refusal : Refusal} → HasSlot (Err refusal)
  gives : {k : Kind} {slot : ℕ} {g : Given} → slot < slots → HasSlot (Ok (k, slot, g))

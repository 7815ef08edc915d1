-- 01, Refusal numbers, of a record that is handed in: "7 one out of range or a `standard` that 6 forbids". When a value
-- is one of its input's form, as a test and as a statement; proofs/Ranges.antt shows that they are one. To be believed.
use Rattle.std.specs.Prelude.{ℕ, ◌<◌, ◌≤◌, Bool, true, false, not, ◌||◌, List, [], ◌∷◌, leb, ltb, ℤ, nat_abs}
use Rattle.names.specs.declared.ValueList.{ValueList}
use Rattle.names.specs.Names.{size_of}
use Rattle.inputs.specs.declared.Form.{Form}
use Rattle.inputs.specs.declared.Form.TheVariants.{Number, OrStandard, NoStandard, Signed as ASigned, OneOf}
use Rattle.inputs.specs.Inputs.{Row, rows_of}
use Rattle.farm.specs.declared.Given.{Given}
use Rattle.farm.specs.declared.Given.TheVariants.{Missing, Standard, Value, Signed}
use Rattle.farm.specs.declared.Slot.{Slot}
use Rattle.farm.specs.declared.Herd.{Herd}

-- `standard` is a value of the form
abbrev pub standard_fits : Form → Bool
standard_fits (OrStandard d m) = true
standard_fits (Number d m) = false
standard_fits (NoStandard d m) = false
standard_fits (ASigned m) = false
standard_fits (OneOf names) = false

-- a number is one of the form: not above the most, or the place of one of the names
abbrev pub value_fits : Form → ℕ → Bool
value_fits (Number d m) v = leb v m
value_fits (OrStandard d m) v = leb v m
value_fits (NoStandard d m) v = leb v m
value_fits (ASigned m) v = false
value_fits (OneOf names) v = ltb v (size_of names)

-- a number that may be below zero: not further from zero than the most
abbrev pub signed_fits : Form → ℤ → Bool
signed_fits (Number d m) v = false
signed_fits (OrStandard d m) v = false
signed_fits (NoStandard d m) v = false
signed_fits (ASigned m) v = leb (nat_abs v) m
signed_fits (OneOf names) v = false

abbrev pub fits : Form → Given → Bool
fits form Missing = true
fits form Standard = standard_fits form
fits form (Value v) = value_fits form v
fits form (Signed v) = signed_fits form v

-- one of the inputs has a value that is none of its form
abbrev pub unfit_one : List Row → List Slot → Bool
unfit_one [] slots = false
unfit_one (row ∷ rows) [] = false
unfit_one (row ∷ rows) (s ∷ slots) = not (fits row.form s.given) || unfit_one rows slots

unfoldable pub unfit : Herd → Bool
unfit h = unfit_one (rows_of h.kind) h.slots

-- "one out of range or a `standard` that 6 forbids": no value of an input of this form
pub data OutOfRange : Form → Given → Type 0 where
  number : {decimals most v : ℕ} → most < v → OutOfRange (Number decimals most) (Value v)
  or_standard : {decimals most v : ℕ} → most < v → OutOfRange (OrStandard decimals most) (Value v)
  no_standard : {decimals most v : ℕ} → most < v → OutOfRange (NoStandard decimals most) (Value v)
  name : {names : ValueList} {v : ℕ} → size_of names ≤ v → OutOfRange (OneOf names) (Value v)
  standard_forbidden : {decimals most : ℕ} → OutOfRange (NoStandard decimals most) Standard
  standard_no_number : {decimals most : ℕ} → OutOfRange (Number decimals most) Standard
  standard_no_name : {names : ValueList} → OutOfRange (OneOf names) Standard
  -- 02, W3: further from zero than the most; and a record has a signed number for a signed input, and for no other
  signed : {most : ℕ} {v : ℤ} → most < nat_abs v → OutOfRange (ASigned most) (Signed v)
  standard_no_signed : {most : ℕ} → OutOfRange (ASigned most) Standard
  value_no_signed : {most v : ℕ} → OutOfRange (ASigned most) (Value v)
  signed_no_number : {decimals most : ℕ} {v : ℤ} → OutOfRange (Number decimals most) (Signed v)
  signed_or_standard : {decimals most : ℕ} {v : ℤ} → OutOfRange (OrStandard decimals most) (Signed v)
  signed_no_standard : {decimals most : ℕ} {v : ℤ} → OutOfRange (NoStandard decimals most) (Signed v)
  signed_no_name : {names : ValueList} {v : ℤ} → OutOfRange (OneOf names) (Signed v)

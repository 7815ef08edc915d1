-- What a value says, from the calls that read it: each law in the form that a place of src/lib.rt wants.
-- Assumes nothing.
use Rattle.std.specs.Prelude.{Err, None, Ok, Some}
use Prim.Native.Nat.{ℕ, ◌<◌, ◌≤◌}
use mathlib.Core.Path.{◌≡◌, sym, ◌∙◌}
use mathlib.Core.Bool.{Bool, true, false}
use mathlib.Core.List.{List}
use native.Mathlib.Omega.{arith}
use lib.Dec.{lit≤}
use Rattle.numbers.specs.Reading.{number_of}
use Rattle.inputs.specs.declared.Form.{Form}
use Rattle.inputs.specs.declared.Form.TheVariants.{Number as ANumber, OrStandard, NoStandard, Signed as ASigned, OneOf}
use Rattle.names.specs.declared.ValueList.{ValueList}
use Rattle.names.specs.declared.ValueList.TheVariants.{
  Categories,
  Yards,
  Floors,
  HousingTypes,
  AirScrubbers,
  HousingFloors,
  HousingAirs,
}
use Rattle.names.specs.Names.{names_of, size_of}
use Rattle.names.specs.Find.{find_name}
use Rattle.words.proofs.Places.{find_text-at}
use Rattle.words.specs.Find.{Found}
use Rattle.farm.specs.declared.Given.TheVariants.{Standard, Value}
use Rattle.number_values.specs.Numbers.{number_read, signed_read, ValueRead}
use Rattle.number_values.specs.declared.ValueFault.TheVariants.{Forbidden, Unfit}
use Rattle.values.specs.Values.{is_standard, name_read, value_of}

-- a name was looked for
module _ {x y : Found} (q : x ≡ y) where
  pub name-is : {j : ℕ} → x ≡ Some j → Ok (Value j) ≡ name_read y
  name-is e = simp (sym q ∙ e)

  pub name-unfit : x ≡ None → Err Unfit ≡ name_read y
  name-unfit e = simp (sym q ∙ e)

-- no list has more names than a byte has values
names-most : (names : ValueList) → size_of names ≤ 255
names-most Categories = lit≤ tt
names-most Yards = lit≤ tt
names-most Floors = lit≤ tt
names-most HousingTypes = lit≤ tt
names-most AirScrubbers = lit≤ tt
names-most HousingFloors = lit≤ tt
names-most HousingAirs = lit≤ tt

pub name-small : (names : ValueList) (s : List ℕ) {x : Found} → x ≡ find_name names s → {j : ℕ} → x ≡ Some j → j < 256
unfolding find_name
name-small names s q {j} e = omega (arith, (find_text-at (names_of names) s j (sym q ∙ e)).inside, names-most names)

-- by the form of the input
module _ {form : Form} (s : List ℕ) {d m : ℕ} where
  pub value-number : {r : ValueRead} → form ≡ ANumber d m → r ≡ number_read (number_of s d m) → r ≡ value_of form s
  unfolding value_of
  value-number e q = rw e q

  module _ {b : Bool} (t : b ≡ is_standard s) where
    pub value-standard : form ≡ OrStandard d m → b ≡ true → Ok Standard ≡ value_of form s
    unfolding value_of
    value-standard e h = simp (e, value_of, sym t ∙ h)

    pub value-no-standard : {r : ValueRead} → form ≡ OrStandard d m → b ≡ false → r ≡ number_read (number_of s d m)
        → r ≡ value_of form s
    unfolding value_of
    value-no-standard e h q = simp (e, value_of, sym t ∙ h) q

    pub value_forbidden : form ≡ NoStandard d m → b ≡ true → Err Forbidden ≡ value_of form s
    unfolding value_of
    value_forbidden e h = simp (e, value_of, sym t ∙ h)

    pub value-not_forbidden : {r : ValueRead} → form ≡ NoStandard d m → b ≡ false → r ≡ number_read (number_of s d m)
        → r ≡ value_of form s
    unfolding value_of
    value-not_forbidden e h q = simp (e, value_of, sym t ∙ h) q

pub value-signed : {form : Form} (s : List ℕ) {r : ValueRead} {most : ℕ} → form ≡ ASigned most → r ≡ signed_read s most
    → r ≡ value_of form s
unfolding value_of
value-signed s e q = simp (e, value_of) q

pub value-name : {form : Form} (s : List ℕ) {r : ValueRead} {names : ValueList} → form ≡ OneOf names
    → r ≡ name_read (find_name names s) → r ≡ value_of form s
unfolding value_of
value-name s e q = simp (e, value_of) q

pub ruleset value_steps = (
  name-is,
  name-unfit,
  value-number,
  value-standard,
  value-no-standard,
  value_forbidden,
  value-not_forbidden,
  value-signed,
  value-name,
)

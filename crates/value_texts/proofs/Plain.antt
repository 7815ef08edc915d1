-- A value as it is written needs no quotes: numbers, `standard` and the names of every list. Assumes nothing.
use Prim.Native.Nat.{ℕ, zero, suc, ◌/◌, ◌%◌, ◌^◌}
use Prim.Native.String.{String}
use mathlib.Core.Path.{◌≡◌, refl}
use mathlib.Core.Bool.{Bool, true, false}
use mathlib.Core.List.{List, [], ◌∷◌}
use lib.Dec.{eqb}
use lib.IntN.{ℤ, pos, negsuc}
use lib.ListN.{get_or}
use Rattle.base.specs.Pick.{pick}
use Rattle.base.specs.Runs.{all}
use Rattle.base.specs.Text.{bytes}
use Rattle.base.proofs.Holds.{both_true}
use Rattle.grammar.specs.Grammar.{Plain}
use Rattle.record_lines.proofs.Plain.{all_past, past-plain, plain-append, plain-lowest, plain-whole}
use Rattle.kilogram_text.specs.Kilograms.{sign}
use Rattle.shortest_numbers.specs.Shortest.{pointed, shortest}
use Rattle.names.specs.declared.ValueList.{ValueList}
use Rattle.names.specs.declared.ValueList.TheVariants.{
  Categories,
  Yards,
  Floors,
  HousingTypes,
  AirScrubbers,
  HousingFloors,
  HousingAirs,
}
use Rattle.names.specs.Names.{names_of}
use Rattle.word_texts.specs.Words.{name_text}
use Rattle.inputs.specs.declared.Form.{Form}
use Rattle.inputs.specs.declared.Form.TheVariants.{Number, OrStandard, NoStandard, Signed as ASigned, OneOf}
use Rattle.farm.specs.declared.Given.{Given}
use Rattle.farm.specs.declared.Given.TheVariants.{Missing, Standard, Value, Signed}
use Rattle.value_texts.specs.Values.{number_text, signed_text, value_text}

-- ---- numbers

pointed-plain : (d v : ℕ) → Plain (pointed d v)
unfolding pointed
pointed-plain d v =
    plain-append (plain-append (plain-whole (v / 10 ^ d)) (past-plain (bytes ".") refl)) (plain-lowest d v)

shortest-plain : (d v : ℕ) → Plain (shortest d v)
unfolding shortest
shortest-plain zero v = plain-whole v
shortest-plain (suc d) v = go (eqb (v % 10) 0) (shortest-plain d (v / 10))
  where
    go : (t : Bool) → Plain (shortest d (v / 10)) → Plain (pick t (shortest d (v / 10)) (pointed (suc d) v))
    go true p = p
    go false p = pointed-plain (suc d) v

signed-plain : (v : ℤ) → Plain (signed_text v)
unfolding signed_text sign
signed-plain (pos v) = plain-whole v
signed-plain (negsuc v) = plain-append (past-plain (bytes "-") refl) (plain-whole (suc v))

-- ---- names

abbrev all_plain : List String → Bool
all_plain names = all (λ (name : String). all_past (bytes name)) names

one_plain : (names : List String) (place : ℕ) → all_plain names ≡ true → Plain (bytes (get_or names place ""))
one_plain [] place e = Plain.none
one_plain (name ∷ names) zero e = past-plain (bytes name) (both_true (all_past (bytes name)) (all_plain names) e).0
one_plain (name ∷ names) (suc place) e =
    one_plain names place (both_true (all_past (bytes name)) (all_plain names) e).1

lists_plain : (names : ValueList) → all_plain (names_of names) ≡ true
lists_plain Categories = refl
lists_plain Yards = refl
lists_plain Floors = refl
lists_plain HousingTypes = refl
lists_plain AirScrubbers = refl
lists_plain HousingFloors = refl
lists_plain HousingAirs = refl

name-plain : (names : ValueList) (place : ℕ) → Plain (name_text names place)
unfolding name_text
name-plain names place = one_plain (names_of names) place (lists_plain names)

-- ---- values

number-plain : (form : Form) (v : ℕ) → Plain (number_text form v)
unfolding number_text
number-plain (Number d m) v = shortest-plain d v
number-plain (OrStandard d m) v = shortest-plain d v
number-plain (NoStandard d m) v = shortest-plain d v
number-plain (ASigned m) v = Plain.none
number-plain (OneOf names) v = name-plain names v

pub value-plain : (form : Form) (given : Given) → Plain (value_text form given)
unfolding value_text
value-plain form Missing = Plain.none
value-plain form Standard = past-plain (bytes "standard") refl
value-plain form (Value v) = number-plain form v
value-plain form (Signed v) = signed-plain v

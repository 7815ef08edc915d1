-- What a value's text says, by the form of its input. 01, The farm file: "`standard`, in any letter case, may stand for
-- inp_n_excretion and tan_fraction of roughage herds. Other names match byte for byte." Refusals 6 and 7. It mirrors
-- the code for its contracts; what a value is, is said in `rules_theorems/specs/Rules`, and proved to be the same
-- there.
use Rattle.std.specs.Prelude.{ℕ, Bool, List, Err, None, Ok, Some}
use Rattle.base.specs.Pick.{pick}
use Rattle.base.specs.Text.{bytes}
use Rattle.base.specs.Part.{same_bytes, lowered}
use Rattle.numbers.specs.Reading.{number_of}
use Rattle.inputs.specs.declared.Form.{Form}
use Rattle.inputs.specs.declared.Form.TheVariants.{Number as ANumber, OrStandard, NoStandard, Signed as ASigned, OneOf}
use Rattle.names.specs.Find.{find_name}
use Rattle.farm.specs.declared.Given.TheVariants.{Standard, Value}
use Rattle.number_values.specs.Numbers.{number_read, signed_read, ValueRead}
use Rattle.number_values.specs.declared.ValueFault.TheVariants.{Forbidden, Unfit}
use Rattle.words.specs.Find.{Found}

unfoldable pub is_standard : List ℕ → Bool
is_standard s = same_bytes (lowered s) (bytes "standard")

-- the place of a name in its list, or nothing
abbrev pub name_read : Found → ValueRead
name_read (Some place) = Ok (Value place)
name_read None = Err Unfit

unfoldable pub value_of : Form → List ℕ → ValueRead
value_of (ANumber decimals most) s = number_read (number_of s decimals most)
value_of (OrStandard decimals most) s = pick (is_standard s) (Ok Standard) (number_read (number_of s decimals most))
value_of (NoStandard decimals most) s = pick (is_standard s) (Err Forbidden) (number_read (number_of s decimals most))
value_of (ASigned most) s = signed_read s most
value_of (OneOf names) s = name_read (find_name names s)

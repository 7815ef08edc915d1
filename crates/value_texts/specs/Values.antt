-- 02, W5, a value as a file has it: "numbers in their shortest form, `standard` in lower case", a number below zero
-- behind a `-`, and the name as its list has it. To be believed.
use Rattle.std.specs.Prelude.{ℕ, List, [], ◌++◌, ℤ, nat_abs}
use Rattle.base.specs.Text.{bytes}
use Rattle.decimal.specs.Writing.{whole_of}
use Rattle.kilogram_text.specs.Kilograms.{sign}
use Rattle.shortest_numbers.specs.Shortest.{shortest}
use Rattle.word_texts.specs.Words.{name_text}
use Rattle.inputs.specs.declared.Form.{Form}
use Rattle.inputs.specs.declared.Form.TheVariants.{Number, OrStandard, NoStandard, Signed as ASigned, OneOf}
use Rattle.farm.specs.declared.Given.{Given}
use Rattle.farm.specs.declared.Given.TheVariants.{Missing, Standard, Value, Signed}

-- a number by the form of its input; one that may be below zero has no such value
unfoldable pub number_text : Form → ℕ → List ℕ
number_text (Number decimals most) v = shortest decimals v
number_text (OrStandard decimals most) v = shortest decimals v
number_text (NoStandard decimals most) v = shortest decimals v
number_text (ASigned most) v = []
number_text (OneOf names) v = name_text names v

-- a whole number that may be below zero
unfoldable pub signed_text : ℤ → List ℕ
signed_text v = sign v ++ whole_of (nat_abs v)

unfoldable pub value_text : Form → Given → List ℕ
value_text form Missing = []
value_text form Standard = bytes "standard"
value_text form (Value v) = number_text form v
value_text form (Signed v) = signed_text v

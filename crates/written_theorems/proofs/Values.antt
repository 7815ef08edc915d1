-- What is written for a value that fits its input is a text that says the value, by the words of the rules. Assumes
-- nothing.
use Prim.Native.Nat.{ℕ, suc}
use mathlib.Core.Path.{◌≡◌, refl, subst}
use mathlib.Core.Bool.{true, false}
use native.Mathlib.Omega.{arith}
use borrow.Author.Tests.{leb-true, ltb-true}
use lib.IntN.{ℤ, pos, negsuc, nat_abs, +ℤ_idl}
use Rattle.base.specs.Text.{bytes}
use Rattle.base.specs.Part.{lower, lowered}
use Rattle.base.proofs.Clash.{clash}
use Rattle.decimal.proofs.Written.{whole-number}
use Rattle.kilogram_text.specs.Kilograms.{sign}
use Rattle.shortest_numbers.proofs.Written.{shortest-number}
use Rattle.names.specs.Names.{size_of}
use Rattle.inputs.specs.declared.Form.{Form}
use Rattle.inputs.specs.declared.Form.TheVariants.{Number, OrStandard, NoStandard, Signed as ASigned, OneOf}
use Rattle.farm.specs.declared.Given.{Given}
use Rattle.farm.specs.declared.Given.TheVariants.{Missing, Standard, Value, Signed}
use Rattle.farm.specs.Herds.{is_missing}
use Rattle.fits.specs.Fits.{fits}
use Rattle.rules_theorems.specs.Rules.{IsSigned, ValueIs}
use Rattle.word_texts.specs.Words.{name_text}
use Rattle.value_texts.specs.Values.{number_text, signed_text, value_text}

signed_is : (v : ℤ) → IsSigned (signed_text v) v
unfolding signed_text sign
signed_is (pos v) = IsSigned.not_below (whole-number v)
signed_is (negsuc v) =
    subst (IsSigned (signed_text (negsuc v))) (+ℤ_idl (negsuc v))
    (IsSigned.behind_minus (whole-number (suc v)) (omega arith))

number_is : (form : Form) (v : ℕ) → fits form (Value v) ≡ true → ValueIs form (number_text form v) (Value v)
unfolding number_text name_text
number_is (Number d m) v e = ValueIs.number (shortest-number d v) (leb-true v m e)
number_is (OrStandard d m) v e = ValueIs.or_standard (shortest-number d v) (leb-true v m e)
number_is (NoStandard d m) v e = ValueIs.no_standard (shortest-number d v) (leb-true v m e)
number_is (ASigned m) v e = clash cc
number_is (OneOf names) v e = ValueIs.name (record { inside = ltb-true v (size_of names) e; name = refl })

standard-is : (form : Form) → fits form Standard ≡ true → ValueIs form (bytes "standard") Standard
unfolding lowered lower
standard-is (Number d m) e = clash cc
standard-is (OrStandard d m) e = ValueIs.standard refl
standard-is (NoStandard d m) e = clash cc
standard-is (ASigned m) e = clash cc
standard-is (OneOf names) e = clash cc

below-is : (form : Form) (v : ℤ) → fits form (Signed v) ≡ true → ValueIs form (signed_text v) (Signed v)
below-is (Number d m) v e = clash cc
below-is (OrStandard d m) v e = clash cc
below-is (NoStandard d m) v e = clash cc
below-is (ASigned m) v e = ValueIs.signed (signed_is v) (leb-true (nat_abs v) m e)
below-is (OneOf names) v e = clash cc

pub value-is : (form : Form) (given : Given) → is_missing given ≡ false → fits form given ≡ true
    → ValueIs form (value_text form given) given
unfolding value_text
value-is form Missing m e = clash cc
value-is form Standard m e = standard-is form e
value-is form (Value v) m e = number_is form v e
value-is form (Signed v) m e = below-is form v e

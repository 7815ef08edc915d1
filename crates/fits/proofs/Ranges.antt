-- A value fails the test of its form exactly where it is out of range. Assumes nothing.
use mathlib.Core.Path.{◌≡◌, refl}
use mathlib.Core.Bool.{false}
use lib.IntN.{nat_abs}
use borrow.Author.Tests.{ltb-false, leb-false, lt-leb, le-ltb}
use Rattle.base.proofs.Clash.{clash}
use Rattle.names.specs.Names.{size_of}
use Rattle.inputs.specs.declared.Form.{Form}
use Rattle.inputs.specs.declared.Form.TheVariants.{Number, OrStandard, NoStandard, Signed as ASigned, OneOf}
use Rattle.farm.specs.declared.Given.{Given}
use Rattle.farm.specs.declared.Given.TheVariants.{Missing, Standard, Value, Signed}
use Rattle.fits.specs.Fits.{fits, OutOfRange}

pub unfit-out : (g : Given) (form : Form) → fits form g ≡ false → OutOfRange form g
unfit-out Missing form e = clash cc
unfit-out Standard (Number d m) e = OutOfRange.standard_no_number
unfit-out Standard (OrStandard d m) e = clash cc
unfit-out Standard (NoStandard d m) e = OutOfRange.standard_forbidden
unfit-out Standard (ASigned m) e = OutOfRange.standard_no_signed
unfit-out Standard (OneOf names) e = OutOfRange.standard_no_name
unfit-out (Value v) (Number d m) e = OutOfRange.number (leb-false v m e)
unfit-out (Value v) (OrStandard d m) e = OutOfRange.or_standard (leb-false v m e)
unfit-out (Value v) (NoStandard d m) e = OutOfRange.no_standard (leb-false v m e)
unfit-out (Value v) (ASigned m) e = OutOfRange.value_no_signed
unfit-out (Value v) (OneOf names) e = OutOfRange.name (ltb-false v (size_of names) e)
unfit-out (Signed v) (Number d m) e = OutOfRange.signed_no_number
unfit-out (Signed v) (OrStandard d m) e = OutOfRange.signed_or_standard
unfit-out (Signed v) (NoStandard d m) e = OutOfRange.signed_no_standard
unfit-out (Signed v) (ASigned m) e = OutOfRange.signed (leb-false (nat_abs v) m e)
unfit-out (Signed v) (OneOf names) e = OutOfRange.signed_no_name

pub out-unfit : {form : Form} {g : Given} → OutOfRange form g → fits form g ≡ false
out-unfit (OutOfRange.number {most = m} {v = v} h) = lt-leb v m h
out-unfit (OutOfRange.or_standard {most = m} {v = v} h) = lt-leb v m h
out-unfit (OutOfRange.no_standard {most = m} {v = v} h) = lt-leb v m h
out-unfit (OutOfRange.name {names = names} {v = v} h) = le-ltb v (size_of names) h
out-unfit OutOfRange.standard_forbidden = refl
out-unfit OutOfRange.standard_no_number = refl
out-unfit OutOfRange.standard_no_name = refl
out-unfit (OutOfRange.signed {most = m} {v = v} h) = lt-leb (nat_abs v) m h
out-unfit OutOfRange.standard_no_signed = refl
out-unfit OutOfRange.value_no_signed = refl
out-unfit OutOfRange.signed_no_number = refl
out-unfit OutOfRange.signed_or_standard = refl
out-unfit OutOfRange.signed_no_standard = refl
out-unfit OutOfRange.signed_no_name = refl

-- What a number's text says as a value: one in range, or nothing; and a whole number that may be below zero (02, W3).
-- It mirrors the code for its contracts; what a value is, is said in `rules_theorems/specs/Rules`, and proved to be the
-- same there.
use Rattle.std.specs.Prelude.{Err, None, Ok, Some}
use Rattle.std.specs.Prelude.{ℕ, zero, suc, Bool, false, List, [], ◌∷◌, eqb, pos, negsuc, length, Result, Ok, Err}
use Rattle.base.specs.Pick.{pick}
use Rattle.base.specs.Part.{part}
use Rattle.numbers.specs.Reading.{number_of}
use Rattle.farm.specs.declared.Given.TheVariants.{Value, Signed}
use Rattle.digits.specs.Digits.{Number}
use Rattle.number_values.specs.declared.ValueFault.TheVariants.{Unfit}
use Rattle.farm.specs.declared.Given.{Given}
use Rattle.number_values.specs.declared.ValueFault.{ValueFault}

-- what a value's text says, or what is wrong with it
abbrev pub ValueRead : Type 0
ValueRead = Result Given ValueFault

-- a number in range, or nothing
abbrev pub number_read : Number → ValueRead
number_read (Some v) = Ok (Value v)
number_read None = Err Unfit

-- 02, W3: a whole number that may be below zero, "with a leading `-`"; "`-0` is unreadable"
abbrev pub has_minus : List ℕ → Bool
has_minus [] = false
has_minus (b ∷ rest) = eqb b 45

-- behind a `-`, and without one
abbrev pub below_read : Number → ValueRead
below_read (Some zero) = Err Unfit
below_read (Some (suc v)) = Ok (Signed (negsuc v))
below_read None = Err Unfit

abbrev pub above_read : Number → ValueRead
above_read (Some v) = Ok (Signed (pos v))
above_read None = Err Unfit

unfoldable pub signed_read : List ℕ → ℕ → ValueRead
signed_read s most =
    pick (has_minus s) (below_read (number_of (part s 1 (length s)) 0 most)) (above_read (number_of s 0 most))

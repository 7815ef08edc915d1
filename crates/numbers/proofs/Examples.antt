-- Numbers of 01 and texts on both sides of its rules, computed from the definitions.
-- Assumes nothing.
use Rattle.std.specs.Prelude.{None, Some}
use mathlib.Core.Path.{◌≡◌, refl}
use mathlib.Core.List.{[], ◌∷◌}
use Prim.Native.Nat.{ℕ}
use Prim.Native.String.{String}
use Rattle.base.specs.Text.{bytes}
use Rattle.numbers.specs.Reading.{whole_from, zero_from, any_number_of, number_of}
use Rattle.digits.specs.Digits.{fraction_from, point_from, Number}

abbrev read : String → ℕ → ℕ → Number
read text decimals most = number_of (bytes text) decimals most

-- grams a head up to 200 kilograms, and tenths of an hour up to 24 hours
pub taken :
    read "0" 3 200000 ∷ read "27.999" 3 200000 ∷ read "13" 3 200000 ∷ read "200.000" 3 200000 ∷ read "0.5" 1 240
    ∷ read "24" 1 240 ∷ []
    ≡ Some 0 ∷ Some 27999 ∷ Some 13000 ∷ Some 200000 ∷ Some 5 ∷ Some 240 ∷ []
unfolding fraction_from point_from whole_from zero_from any_number_of number_of
taken = refl

pub refused :
    read "" 3 9 ∷ read "00" 0 9 ∷ read "01" 0 9 ∷ read "1." 1 99 ∷ read ".5" 1 99 ∷ read "-1" 0 9 ∷ read "1.0" 0 9
    ∷ read "0.25" 1 99 ∷ read "24.1" 1 240 ∷ []
    ≡ None ∷ None ∷ None ∷ None ∷ None ∷ None ∷ None ∷ None ∷ None
    ∷ []
unfolding fraction_from point_from whole_from zero_from any_number_of number_of
refused = refl

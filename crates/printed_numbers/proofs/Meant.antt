-- Each name that may stand as a value in a file means what 001 prints for it: one test of the whole table, which antt
-- computes, carried to each row. Assumes nothing.
use Rattle.std.specs.Prelude.{None, Some}
use mathlib.Core.Bool.{Bool, false}
use mathlib.Core.Path.{◌≡◌, refl}
use lib.Dec.{T}
use Rattle.base.specs.Text.{bytes}
use Rattle.base.specs.Part.{same_bytes}
use Rattle.base.specs.Each.{Each}
use Rattle.base.proofs.Each.{each-passed}
use Rattle.digits.specs.Digits.{point_from, fraction_from}
use Rattle.numbers.specs.Reading.{number_of, any_number_of, zero_from, whole_from}
use Rattle.words.specs.Find.{first_from, is_name, find_text, Found}
use Rattle.names.specs.Find.{find_name}
use Rattle.kinds.specs.Choices.{yard_at, floor_at, housing_at, scrubber_at, housing_floor_at, housing_air_at}
use Rattle.printed_numbers.specs.Meant.{Meant, IsMeant, values}
use Rattle.printed_numbers.proofs.Printed.{is_value, is-value}

abbrev right_at : Meant → Found → Bool
right_at m (Some place) =
    is_value (m.parameter.number_at place)
    (number_of (bytes m.text) m.parameter.unit.decimals (m.parameter.number_at place))
right_at m None = false

abbrev right : Meant → Bool
right m = right_at m (find_name m.parameter.among (bytes m.value))

right_meant : (m : Meant) → T (right m) → IsMeant m
right_meant m t = go (find_name m.parameter.among (bytes m.value)) refl t
  where
    go : (f : Found) → find_name m.parameter.among (bytes m.value) ≡ f → T (right_at m f) → IsMeant m
    go (Some p) e h = record { place = p; found = e; reads = is-value (m.parameter.number_at p) _ h }
    go None e h = absurd h

pub every-name_meant : Each IsMeant values
unfolding find_name find_text first_from is_name same_bytes number_of any_number_of zero_from whole_from point_from
    fraction_from
    yard_at floor_at housing_at scrubber_at housing_floor_at housing_air_at
every-name_meant = each-passed right right_meant values tt

-- Small logs on both sides of the rules, and the inputs of a farm file that take what is printed, computed from the
-- definitions. Assumes nothing.
use Prim.Native.Nat.{ℕ}
use Prim.Native.String.{String}
use mathlib.Core.Path.{◌≡◌, refl}
use mathlib.Core.List.{List, [], ◌∷◌, map}
use lib.ListN.{replicate}
use Rattle.base.specs.Text.{bytes}
use Rattle.grammar.specs.Reading.{at_start, in_plain, in_quotes, past_quote, past_cR, reading_from, reading_of}
use Rattle.numbers.specs.Reading.{whole_from, zero_from, any_number_of, number_of}
use Rattle.digits.specs.Digits.{fraction_from, point_from}
use Rattle.calendar.specs.Calendar.{date, is_leap, days_in}
use Rattle.calendar.specs.Following.{due_after}
use Rattle.dates.specs.Reading.{pair_of, date_of}
use Rattle.gate_days.specs.Days.{day, hours_of, day_of}
use Rattle.outdoors.specs.Outdoors.{outdoors_of}
use Rattle.outdoors.specs.Tallies.{with_day}
use Rattle.gate.specs.Logs.{finished, read_from, read_log}
use Rattle.decimal.specs.Writing.{width, whole_of}
use Rattle.refusal_line.specs.Lines.{refusal_line}
use Rattle.gate_answer.specs.Program.{log_output}
use Rattle.inputs.specs.Inputs.{row_at}
use Rattle.gate_rules_theorems.specs.FarmFile.{Input, inputs_named}

-- a log of 65,537 bytes; an empty one and one that ends on 1 January; 24 hours and a tenth; a first date that is not
-- 1 January; 7 before 14, and 3 before both; a quote that is not closed; a date that comes twice
abbrev refused_logs : List (List ℕ)
refused_logs =
    replicate 65537 10
    ∷ bytes ""
    ∷ bytes "2023-01-01,12.5,11.5\r\n"
    ∷ bytes "2023-01-01,12.5,11.6\r\n"
    ∷ bytes "2023-01-02,1,1\r\n"
    ∷ bytes "2023-01-02,25,1\r\n"
    ∷ bytes "2023-01-02,25\r\n"
    ∷ bytes "2023-01-01,1,1\r\n2023-01-02,\"1,1\r\n"
    ∷ bytes "2023-01-01,1,1\r\n2023-01-01,1,1\r\n"
    ∷ []

-- what is printed for each
pub refused-rows : map log_output refused_logs
    ≡ map bytes
    ("refused,1,0\r\n"
    ∷ "refused,14,0\r\n"
    ∷ "refused,14,0\r\n"
    ∷ "refused,7,1\r\n"
    ∷ "refused,14,1\r\n"
    ∷ "refused,7,1\r\n"
    ∷ "refused,3,1\r\n"
    ∷ "refused,2,2\r\n"
    ∷ "refused,14,2\r\n"
    ∷ [])
unfolding log_output refusal_line whole_of width read_log read_from finished day_of hours_of with_day due_after days_in
    is_leap
    date_of pair_of number_of any_number_of zero_from whole_from point_from fraction_from reading_of reading_from
    at_start in_plain
    in_quotes past_quote past_cR
refused-rows = refl

-- 29 February is not counted, and of 10.0 and 0.5 hours the mean is cut to 5.2
pub outdoors-row :
    outdoors_of
    (day (date 2024 2 28) 100 0 ∷ day (date 2024 2 29) 240 0 ∷ day (date 2024 3 1) 5 20 ∷ day (date 2024 3 2) 0 0 ∷ [])
    ≡ record { grazing_days = 2; yard_days = 1; grazing_hours = 52 }
unfolding outdoors_of
outdoors-row = refl

-- the kinds that have an input of a name, by the path of its module
abbrev modules_with : String → List String
modules_with t = map (λ (i : Input). (row_at i.kind i.slot).path) (inputs_named t)

pub taken-by :
    map modules_with ("grazing_days" ∷ "yard_days" ∷ "grazing_hours" ∷ [])
    ≡ ("Livestock::RoughageConsuming::Grazing"
    ∷ "Livestock::OtherCattle::Outdoor"
    ∷ "Livestock::DairyCow::Outdoor"
    ∷ [])
    ∷ ("Livestock::OtherCattle::Outdoor" ∷ "Livestock::DairyCow::Outdoor" ∷ [])
    ∷ ("Livestock::RoughageConsuming::Grazing"
    ∷ "Livestock::OtherCattle::Outdoor"
    ∷ "Livestock::DairyCow::Outdoor"
    ∷ [])
    ∷ []
taken-by = refl

-- Grams in kilograms as doubles (02, W13): "the whole number of grams turned into a double without loss and divided by
-- 1000 once". The division is the language's own. To be believed.
use Rattle.std.specs.Prelude.{ℕ, ◌^◌, false, List, map, get_or, ℤ, pos, Float}
use Prim.Native.String.{String}
use Rattle.std.specs.Float.{fin, binary64}
use Rattle.std.specs.Float.Ieee.{div, of_int}
use Rattle.outputs.specs.declared.Figures.{Figures}
use Rattle.outputs.specs.declared.Totals.{Totals}
use Rattle.outputs.specs.Names.{number, total_number}
use Rattle.kilograms.specs.declared.Kilograms.{Kilograms}
use Rattle.kilograms.specs.declared.TotalKilograms.{TotalKilograms}

abbrev pub double : ℤ → Float
double z = of_int binary64 z

unfoldable pub in_kilograms : ℤ → Float
in_kilograms grams = div binary64 (double grams) (double (pos 1000))

-- a herd's figures and a farm's totals, by the numbers that the grams have
abbrev pub kilograms_of : Figures → Kilograms
kilograms_of f = record { kilograms = map in_kilograms f.grams }

abbrev pub total_kilograms_of : Totals → TotalKilograms
total_kilograms_of t = record { kilograms = map in_kilograms t.grams }

-- +0
abbrev pub plus_zero : Float
plus_zero = fin false 0 (pos 0)

-- the kilograms of a number; past the last +0
abbrev pub kilograms_at : List Float → ℕ → Float
kilograms_at k n = get_or k n plus_zero

-- a herd's figure under a name, and a farm's total under one, as `figure` and `total` have the grams
abbrev pub figure_in_kilograms : String → Kilograms → Float
figure_in_kilograms t k = kilograms_at k.kilograms (number t)

abbrev pub total_in_kilograms : String → TotalKilograms → Float
total_in_kilograms t k = kilograms_at k.kilograms (total_number t)

-- up to here every whole number is a double
abbrev pub exact_most : ℕ
exact_most = 2 ^ 53

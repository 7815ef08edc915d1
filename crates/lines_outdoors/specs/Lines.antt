-- What a year's days come to, byte by byte: three lines, as `name,value` with CRLF, hours with exactly one decimal. To
-- be believed.
use Rattle.std.specs.Prelude.{ℕ, ◌/◌, ◌%◌, List, [], ◌++◌}
use Prim.Native.String.{String}
use Rattle.base.specs.Text.{bytes}
use Rattle.decimal.specs.Writing.{whole_of}
use Rattle.outdoors.specs.declared.Outdoors.{Outdoors}

-- tenths, with one decimal
abbrev pub tenths_of : ℕ → List ℕ
tenths_of n = whole_of (n / 10) ++ (bytes "." ++ whole_of (n % 10))

-- a line of a name and a value, and what comes behind it
abbrev pub line : String → List ℕ → List ℕ → List ℕ
line name value behind = bytes name ++ (bytes "," ++ (value ++ (bytes "\r\n" ++ behind)))

unfoldable pub outdoors_lines : Outdoors → List ℕ
outdoors_lines o =
    line "grazing_days" (whole_of o.grazing_days)
    (line "yard_days" (whole_of o.yard_days)
    (line "grazing_hours" (tenths_of o.grazing_hours) []))

-- How long a farm file may be, and how many herds its farm may have, by where the file comes from. They mirror the code
-- for its contract; the limits that are to be believed stand in `rules_theorems/specs`, and are proved to be the same
-- there.
use Rattle.std.specs.Prelude.{ℕ}
use Rattle.limits.specs.declared.Limits.{Limits}
use Rattle.limits.specs.declared.Source.{Source}
use Rattle.limits.specs.declared.Source.TheVariants.{StandardInput, Cooperative}

abbrev pub input_bytes : ℕ
input_bytes = 65536

abbrev pub input_herds : ℕ
input_herds = 64

abbrev pub cooperative_bytes : ℕ
cooperative_bytes = 262144

abbrev pub cooperative_herds : ℕ
cooperative_herds = 512

unfoldable pub limits_of : Source → Limits
limits_of StandardInput = record { bytes = input_bytes; herds = input_herds }
limits_of Cooperative = record { bytes = cooperative_bytes; herds = cooperative_herds }

-- The units of the formulas: shares and hours in tenths, floor and free factor in percent, fractions and rates in
-- ten-thousandths, the housing's rate in thousandths, its factors in billionths. And the year and the day. (01, Steps
-- and cuts.)
use Rattle.std.specs.Prelude.{ℕ, ◌*◌}

abbrev pub tenths : ℕ
tenths = 10

abbrev pub percent : ℕ
percent = 100

abbrev pub thousandths : ℕ
thousandths = 1000

abbrev pub ten_thousandths : ℕ
ten_thousandths = 10000

abbrev pub billionths : ℕ
billionths = 1000000000

-- days of a year
abbrev pub year : ℕ
year = 365

-- a day, in tenths of an hour
abbrev pub day : ℕ
day = 24 * tenths

-- 02, W10: "Refusals: 1, 2, 3 (not three fields), 7 (bad number or sum), then 14". The number of each; 1 to 3 and 7
-- are 01's. To be believed.
use Rattle.std.specs.Prelude.{ℕ}
use Rattle.gate_days.specs.declared.LogRefusal.{LogRefusal}
use Rattle.gate_days.specs.declared.LogRefusal.TheVariants.{LogTooLong, RecordBroken, NotThreeFields, BadHours}
use Rattle.gate_days.specs.declared.LogRefusal.TheVariants.{WrongDate}

abbrev pub number : LogRefusal → ℕ
number LogTooLong = 1
number RecordBroken = 2
number NotThreeFields = 3
number BadHours = 7
number WrongDate = 14

-- 02, W10, the refusals of a log a second time and by count, its words beside each; 14 is the first number that is none
-- of 01's thirteen. Assumes nothing.
use mathlib.Core.Path.{◌≡◌, refl}
use mathlib.Core.List.{List, [], ◌∷◌, map}
use Rattle.gate_days.specs.declared.LogRefusal.{LogRefusal}
use Rattle.gate_days.specs.declared.LogRefusal.TheVariants.{LogTooLong, RecordBroken, NotThreeFields, BadHours}
use Rattle.gate_days.specs.declared.LogRefusal.TheVariants.{WrongDate}
use Rattle.gate_days.specs.Refusals.{number}

abbrev faults : List LogRefusal
faults =
    LogTooLong  -- 01's "file over 65,536 bytes"
    ∷ RecordBroken  -- 01's "record breaks RFC 4180 as above"
    ∷ NotThreeFields  -- "not three fields"
    ∷ BadHours  -- "bad number or sum"
    ∷ WrongDate  -- "a date that can't be read, a date that isn't the next one .."
    ∷ []

pub numbered : map number faults ≡ 1 ∷ 2 ∷ 3 ∷ 7 ∷ 14 ∷ []
numbered = refl

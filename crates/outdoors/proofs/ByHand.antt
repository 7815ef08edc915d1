-- 02, W10, worked out by hand where nothing can be divided: days on the yard and none on pasture. Assumes nothing.
use Prim.Native.Nat.{ℕ}
use mathlib.Core.Path.{◌≡◌, refl}
use mathlib.Core.List.{[], ◌∷◌}
use Rattle.outdoors.specs.declared.Day.{Day}
use Rattle.outdoors.specs.Outdoors.{outdoors_of}

-- a day of March: hours on pasture and on the yard, in tenths
abbrev march : ℕ → ℕ → ℕ → Day
march date pasture yard =
    record { date = record { year = 2023; month = 3; day = date }; pasture = pasture; yard = yard }

pub never-grazed :
    outdoors_of (march 1 0 20 ∷ march 2 0 0 ∷ march 3 0 5 ∷ [])
    ≡ record { grazing_days = 0; yard_days = 2; grazing_hours = 0 }
unfolding outdoors_of
never-grazed = refl

-- not one day either
pub no-days : outdoors_of [] ≡ record { grazing_days = 0; yard_days = 0; grazing_hours = 0 }
unfolding outdoors_of
no-days = refl

-- A herd's record as the complete inputs of its kind: each input is found in the slot that has its name's place in 01's
-- list (crate `inputs`, rows_of), and each choice by its name's place among the names of 2.34, 2.58, 2.59 or 2.62
-- (crate
-- `kinds`; proofs/Named.antt: each name has its choice).
use Rattle.std.specs.Prelude.{ℕ, ◌+◌, List, [], ◌∷◌, ℤ, pos, get_or}
use Prim.Native.String.{String}
use lib.Text.{eqt}
use Rattle.base.specs.Pick.{pick}
use Rattle.inputs.specs.declared.Kind.{Kind}
use Rattle.inputs.specs.declared.Kind.TheVariants as kinds
use Rattle.inputs.specs.Inputs.{Row, rows_of}
use Rattle.farm.specs.declared.Given.{Given}
use Rattle.farm.specs.declared.Given.TheVariants.{Missing, Standard, Value, Signed}
use Rattle.farm.specs.declared.Herd.{Herd}
use Rattle.farm.specs.Herds.{no_slot}
use Rattle.kinds.specs.declared.Entered.{Entered}
use Rattle.kinds.specs.declared.Entered.TheVariants as entered
use Rattle.kinds.specs.declared.Outdoor.{Outdoor}
use Rattle.kinds.specs.declared.Roughage.{Roughage}
use Rattle.kinds.specs.declared.CattleKind.{CattleKind}
use Rattle.kinds.specs.declared.CattleKind.TheVariants.{OtherCattle, DairyCow}
use Rattle.kinds.specs.declared.Cattle.{Cattle}
use Rattle.kinds.specs.declared.Pigs.{Pigs}
use Rattle.kinds.specs.declared.Inputs.{Inputs}
use Rattle.kinds.specs.declared.Inputs.TheVariants as typed
use Rattle.kinds.specs.Choices.{yard_at, floor_at, housing_at, scrubber_at, housing_floor_at, housing_air_at}

-- the number that is given, and 0 where none is
abbrev pub number_in : Given → ℕ
number_in Missing = 0
number_in Standard = 0
number_in (Value v) = v
number_in (Signed v) = 0

-- the same of a number that may be below zero (02, W3)
abbrev pub signed_in : Given → ℤ
signed_in Missing = pos 0
signed_in Standard = pos 0
signed_in (Value v) = pos 0
signed_in (Signed v) = v

abbrev pub entered_in : Given → Entered
entered_in Missing = entered.Number 0
entered_in Standard = entered.Standard
entered_in (Value v) = entered.Number v
entered_in (Signed v) = entered.Number 0

abbrev pub given_at : Herd → ℕ → Given
given_at h place = (get_or h.slots place no_slot).given

abbrev pub number_at : Herd → ℕ → ℕ
number_at h place = number_in (given_at h place)

abbrev pub signed_at : Herd → ℕ → ℤ
signed_at h place = signed_in (given_at h place)

abbrev pub entered_at : Herd → ℕ → Entered
entered_at h place = entered_in (given_at h place)

-- ---- the inputs by name

-- the place of the row with a name; past the last where none has it
abbrev pub place_named : String → List Row → ℕ
place_named name [] = 0
place_named name (row ∷ rows) = pick (eqt name row.name) 0 (1 + place_named name rows)

abbrev pub given_named : Kind → String → Herd → Given
given_named kind name h = given_at h (place_named name (rows_of kind))

abbrev pub number_named : Kind → String → Herd → ℕ
number_named kind name h = number_in (given_named kind name h)

abbrev pub signed_named : Kind → String → Herd → ℤ
signed_named kind name h = signed_in (given_named kind name h)

abbrev pub entered_named : Kind → String → Herd → Entered
entered_named kind name h = entered_in (given_named kind name h)

-- ---- the kinds

unfoldable pub roughage_of : Herd → Roughage
roughage_of h =
    record {
      animalcategory = number_named kinds.Roughage "animalcategory" h;
      animals = number_named kinds.Roughage "animals" h;
      inp_n_excretion = entered_named kinds.Roughage "inp_n_excretion" h;
      tan_fraction = entered_named kinds.Roughage "tan_fraction" h;
      free_correction_factor = signed_named kinds.Roughage "free_correction_factor" h;
      grazing_days = number_named kinds.Roughage "grazing_days" h;
      grazing_hours = number_named kinds.Roughage "grazing_hours" h;
    }

-- the module `Outdoor` of a kind that has it
unfoldable pub outdoor_of : Kind → Herd → Outdoor
outdoor_of kind h =
    record {
      yard_days = number_named kind "yard_days" h;
      exercise_yard = yard_at (number_named kind "exercise_yard" h);
      floor_properties_exercise_yard = floor_at (number_named kind "floor_properties_exercise_yard" h);
      free_correction_factor = signed_named kind "free_correction_factor" h;
      grazing_days = number_named kind "grazing_days" h;
      grazing_hours = number_named kind "grazing_hours" h;
    }

-- the kind of a record, by the kind of cattle
abbrev pub kind_of : CattleKind → Kind
kind_of OtherCattle = kinds.Cattle
kind_of DairyCow = kinds.DairyCow

-- 02, W9: `standard` for TAN is read for dairy cows alone
abbrev pub tan_in : CattleKind → Given → Entered
tan_in OtherCattle given = entered.Number (number_in given)
tan_in DairyCow given = entered_in given

-- other cattle and dairy cows: one list of inputs
unfoldable pub cattle_of : CattleKind → Herd → Cattle
cattle_of k h =
    record {
      kind = k;
      animals = number_named (kind_of k) "animals" h;
      inp_n_excretion = number_named (kind_of k) "inp_n_excretion" h;
      tan_fraction = tan_in k (given_named (kind_of k) "tan_fraction" h);
      outdoor = outdoor_of (kind_of k) h;
    }

unfoldable pub pigs_of : Herd → Pigs
pigs_of h =
    record {
      animals = number_named kinds.Pigs "animals" h;
      inp_n_excretion = number_named kinds.Pigs "inp_n_excretion" h;
      tan_fraction = number_named kinds.Pigs "tan_fraction" h;
      housing_type = housing_at (number_named kinds.Pigs "housing_type" h);
      air_scrubber = scrubber_at (number_named kinds.Pigs "air_scrubber" h);
      mitigation_housing_floor = housing_floor_at (number_named kinds.Pigs "mitigation_housing_floor" h);
      mitigation_housing_air = housing_air_at (number_named kinds.Pigs "mitigation_housing_air" h);
      free_correction_factor = signed_named kinds.Pigs "free_correction_factor" h;
    }

abbrev pub typed_as : Kind → Herd → Inputs
typed_as kinds.Roughage h = typed.Roughage (roughage_of h)
typed_as kinds.Cattle h = typed.Cattle (cattle_of OtherCattle h)
typed_as kinds.Pigs h = typed.Pigs (pigs_of h)
typed_as kinds.DairyCow h = typed.Cattle (cattle_of DairyCow h)

unfoldable pub typed_of : Herd → Inputs
typed_of h = typed_as h.kind h

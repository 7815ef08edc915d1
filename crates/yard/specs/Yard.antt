-- 2.33 and 2.34: days with both, the yard's share of what is excreted, and what happens on the yard. So it is of dairy
-- cows too: 2.18 and 2.19 print the same formulas and the same numbers (crate `printed_numbers`).
--
-- The trap of these pages: grazing days and yard days may overlap. Both counts stay as they are; a day on which the
-- herd has both is a day with a share of its own. Neither count is cut at what the other leaves of the year, and on the
-- other yard days the share is as chosen, in summer and in winter.
use Rattle.std.specs.Prelude.{ℕ, ◌+◌, ◌-◌, ◌*◌, Bool, ◌&&◌, ltb, ℤ}
use Rattle.base.specs.Pick.{pick}
use Rattle.cut_division.specs.Cut.{least}
use Rattle.amounts.specs.Units.{tenths, percent, ten_thousandths, year}
use Rattle.amounts.specs.Arithmetic.{Arithmetic}
use Rattle.amounts.specs.Dividing.{dividing, handed, worth}
use Rattle.amounts.specs.Portion.{portion}
use Rattle.kinds.specs.declared.ExerciseYard.{ExerciseYard}
use Rattle.kinds.specs.declared.ExerciseYard.TheVariants.{NotAvailable, NotSupplied, Partly, Exclusively}
use Rattle.kinds.specs.declared.Floor.{Floor}
use Rattle.kinds.specs.declared.Floor.TheVariants.{Solid, Unpaved, Perforated, Paddock}
use Rattle.kinds.specs.declared.Outdoor.{Outdoor}
use Rattle.kinds.specs.Free.{c_free_factor}
use Rattle.yard.specs.declared.Yard.{Yard}

-- 2.33, c_free_factor_yard, in percent
abbrev pub c_free_factor_yard : ℤ → ℕ
c_free_factor_yard = c_free_factor

-- 2.33, days_with_grazing_and_yard
unfoldable pub days_with_grazing_and_yard : Outdoor → ℕ
days_with_grazing_and_yard o =
    pick (ltb year (o.grazing_days + o.yard_days)) (o.grazing_days + o.yard_days - year) 0

-- 2.34, Technical Parameters: shares in tenths
abbrev pub share_available_roughage_is_exclusively_supplied_in_the_exercise_yard : ℕ
share_available_roughage_is_exclusively_supplied_in_the_exercise_yard = 6

abbrev pub share_available_roughage_is_partly_supplied_in_the_exercise_yard : ℕ
share_available_roughage_is_partly_supplied_in_the_exercise_yard = 2

abbrev pub share_available_roughage_is_not_supplied_in_the_exercise_yard : ℕ
share_available_roughage_is_not_supplied_in_the_exercise_yard = 1

-- 2.34, Technical Parameters: er_yard, 0.7, in ten-thousandths
abbrev pub er_yard : ℕ
er_yard = 7000

-- 2.34, Technical Parameters: red_floor_properties_..., in percent
abbrev pub red_floor_properties : Floor → ℕ
red_floor_properties Solid = 0
red_floor_properties Unpaved = 50
red_floor_properties Perforated = 75
red_floor_properties Paddock = 90

-- 2.34, c_floor_properties_exercise_yard
abbrev pub c_floor_properties_exercise_yard : Floor → ℕ
c_floor_properties_exercise_yard floor = percent - red_floor_properties floor

-- 2.34, share_excretion
abbrev pub share_excretion : ExerciseYard → ℕ
share_excretion NotAvailable = 0
share_excretion NotSupplied = share_available_roughage_is_not_supplied_in_the_exercise_yard
share_excretion Partly = share_available_roughage_is_partly_supplied_in_the_exercise_yard
share_excretion Exclusively = share_available_roughage_is_exclusively_supplied_in_the_exercise_yard

-- 2.34, share_excretion_with_grazing, its test: there are days with both, and the share is above that of roughage
-- partly supplied
unfoldable pub share_lowered : Outdoor → Bool
share_lowered o =
    ltb 0 (days_with_grazing_and_yard o)
    && ltb share_available_roughage_is_partly_supplied_in_the_exercise_yard (share_excretion o.exercise_yard)

-- 2.34, share_excretion_with_grazing: on days with both
unfoldable pub share_excretion_with_grazing : Outdoor → ℕ
share_excretion_with_grazing o =
    pick (share_lowered o)
    share_available_roughage_is_partly_supplied_in_the_exercise_yard
    (share_excretion o.exercise_yard)

-- 01 words it "0.2 where the share is above 0.2, else the share", with no word of whether there are such days; the
-- figures are the same (`yard_time-worded`, and `grazing_time_worded` of crate `pasture`)
abbrev pub share_on_both : ExerciseYard → ℕ
share_on_both yard =
    pick (ltb share_available_roughage_is_partly_supplied_in_the_exercise_yard (share_excretion yard))
    share_available_roughage_is_partly_supplied_in_the_exercise_yard
    (share_excretion yard)

-- 2.34, n_into_yard: the part of the year, in tenths of a day
unfoldable pub yard_time : Outdoor → ℕ
yard_time o =
    share_excretion o.exercise_yard * (o.yard_days - days_with_grazing_and_yard o)
    + share_excretion_with_grazing o * days_with_grazing_and_yard o

-- 2.34, ef_nh3_nyard: er_yard, floor and free factor, in ten-thousandths of percent of percent
abbrev pub rate_floor_free : Outdoor → ℕ
rate_floor_free o =
    er_yard
    * c_floor_properties_exercise_yard o.floor_properties_exercise_yard
    * c_free_factor_yard o.free_correction_factor

-- and then the ceiling of 1, which a free factor below zero can reach (02, W3)
abbrev pub ef_nh3_nyard : Outdoor → ℕ
ef_nh3_nyard o = least (rate_floor_free o) (ten_thousandths * percent * percent)

pub record YardIn (A : Arithmetic) : Type 0 where
  pub n_into_yard : A.Amount
  pub tan_into_yard : A.Amount
  pub nh3_nyard : A.Amount
  pub n_outyard_liquid : A.Amount
  pub tan_outyard_liquid : A.Amount

module _ (A : Arithmetic) where
  open A use {Amount, whole, ◌⊖◌}

  infixl 6 ◌⊖◌
  -- 2.34, n_into_yard and tan_into_yard: one cut
  abbrev pub into_yard : Outdoor → Amount → Amount
  into_yard o amount = portion A amount (yard_time o) (tenths * year)

  -- 2.34, nh3_nyard: one cut
  abbrev pub nh3_on_yard : Outdoor → Amount → Amount
  nh3_on_yard o tan = portion A tan (ef_nh3_nyard o) (ten_thousandths * percent * percent)

  -- 2.34, n_outyard_liquid and tan_outyard_liquid: what came onto the yard, what is emitted there, what leaves it
  abbrev pub through_yard : Amount → Amount → Amount → YardIn A
  through_yard n tan nh3 =
      record {
        n_into_yard = n;
        tan_into_yard = tan;
        nh3_nyard = nh3;
        n_outyard_liquid = n ⊖ nh3;
        tan_outyard_liquid = tan ⊖ nh3;
      }

  -- the yard of a herd that excretes so much N and TAN
  abbrev pub on_yard : Outdoor → Amount → Amount → YardIn A
  on_yard o n tan = through_yard (into_yard o n) (into_yard o tan) (nh3_on_yard o (into_yard o tan))

  -- no yard: "Roughage has no yard" (01), and 2.1's n_into_yard has none of pigs
  abbrev pub no_yard : YardIn A
  no_yard = through_yard (whole 0) (whole 0) (whole 0)

-- the code's struct: whole numbers, and what was cut with what was cut off
abbrev pub handed_yard : YardIn dividing → Yard
handed_yard y =
    record {
      into = record { n = handed y.n_into_yard; tan = handed y.tan_into_yard };
      nh3_nyard = handed y.nh3_nyard;
      n_outyard_liquid = worth y.n_outyard_liquid;
      tan_outyard_liquid = worth y.tan_outyard_liquid;
    }

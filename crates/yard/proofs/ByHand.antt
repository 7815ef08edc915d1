-- 2.34 worked out by hand with a free factor above 0: a yard on every day of the year, to which roughage is exclusively
-- supplied, on an unpaved floor, and 25 percent less. So 0.6 of what is excreted comes there, and of its TAN 0.7 × 0.5
-- × 0.75 is emitted, with one cut: 9451.05 grams, where a cut after each product gives 9450. Assumes nothing.
use mathlib.Core.Path.{◌≡◌, refl}
use lib.IntN.{pos}
use Rattle.amounts.specs.Arithmetic.{cutting}
use Rattle.kinds.specs.declared.ExerciseYard.TheVariants.{Exclusively}
use Rattle.kinds.specs.declared.Floor.TheVariants.{Unpaved}
use Rattle.kinds.specs.declared.Outdoor.{Outdoor}
use Rattle.yard.specs.Yard.{
  on_yard,
  yard_time,
  days_with_grazing_and_yard,
  share_excretion_with_grazing,
  share_lowered,
}

abbrev quarter_less : Outdoor
quarter_less =
    record {
      yard_days = 365;
      exercise_yard = Exclusively;
      floor_properties_exercise_yard = Unpaved;
      free_correction_factor = pos 25;
      grazing_days = 0;
      grazing_hours = 0;
    }

pub worked_quarter_less :
    on_yard cutting quarter_less 100_000 60_007
    ≡ record {
      n_into_yard = 60_000;
      tan_into_yard = 36_004;
      nh3_nyard = 9_451;
      n_outyard_liquid = 50_549;
      tan_outyard_liquid = 26_553;
    }
unfolding yard_time days_with_grazing_and_yard share_excretion_with_grazing share_lowered
worked_quarter_less = refl

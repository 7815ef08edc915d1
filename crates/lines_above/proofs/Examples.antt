-- The line's answer as it is printed, computed from the definition. Assumes nothing.
use Rattle.std.specs.Prelude.{Ok}
use mathlib.Core.Path.{◌≡◌, refl}
use Rattle.base.specs.Text.{bytes}
use Rattle.decimal.specs.Writing.{width, whole_of}
use Rattle.above_line.specs.declared.Above.TheVariants.{Yes, No}
use Rattle.lines_above.specs.Lines.{answer_line}

-- above the line with the twelfth herd
pub yes-printed : answer_line (Ok (Yes 12)) ≡ bytes "yes,12\r\n"
unfolding whole_of width
yes-printed = refl

-- a farm of no herds
pub no-printed : answer_line (Ok (No 0)) ≡ bytes "no,0\r\n"
unfolding whole_of width
no-printed = refl

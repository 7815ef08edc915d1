-- A list of changes as it is printed, computed from the definition: the kind first, then the place. Assumes nothing.
use mathlib.Core.Path.{◌≡◌, refl}
use mathlib.Core.List.{[], ◌∷◌}
use Rattle.base.specs.Text.{bytes}
use Rattle.decimal.specs.Writing.{width, whole_of}
use Rattle.mend_print.specs.Lines.{lines_of}

-- the mark dropped, and a CR put in at 55
pub changes-printed : lines_of (1 ∷ 0 ∷ 2 ∷ 55 ∷ []) ≡ bytes "1,0\r\n2,55\r\n"
unfolding lines_of whole_of width
changes-printed = refl

-- Grams as the listing has them, computed from the definitions. Assumes nothing.
use mathlib.Core.Path.{◌≡◌, refl}
use mathlib.Core.List.{[], ◌∷◌}
use lib.IntN.{pos, negsuc}
use Rattle.base.specs.Text.{bytes}
use Rattle.decimal.specs.Writing.{width, whole_of}
use Rattle.kilogram_text.specs.Kilograms.{thousandths_of, sign, kilograms_of}

pub written :
    kilograms_of (pos 130000) ∷ kilograms_of (pos 715) ∷ kilograms_of (pos 0) ∷ kilograms_of (negsuc 5225)
    ∷ kilograms_of (negsuc 0) ∷ []
    ≡ bytes "130.000" ∷ bytes "0.715" ∷ bytes "0.000" ∷ bytes "-5.226" ∷ bytes "-0.001" ∷ []
unfolding width whole_of thousandths_of sign kilograms_of
written = refl

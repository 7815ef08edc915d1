-- Numbers in their shortest form, computed from the definition. Assumes nothing.
use mathlib.Core.Path.{◌≡◌, refl}
use mathlib.Core.List.{[], ◌∷◌}
use Rattle.base.specs.Text.{bytes}
use Rattle.decimal.specs.Writing.{width, whole_of}
use Rattle.shortest_numbers.specs.Shortest.{pointed, shortest}

-- "no trailing zero behind the point, no point without digits"
pub written :
    shortest 3 0 ∷ shortest 3 1 ∷ shortest 3 200000 ∷ shortest 3 199999 ∷ shortest 2 10000 ∷ shortest 1 240
    ∷ shortest 2 150 ∷ shortest 3 10 ∷ shortest 0 10000 ∷ []
    ≡ bytes "0" ∷ bytes "0.001" ∷ bytes "200" ∷ bytes "199.999" ∷ bytes "100" ∷ bytes "24" ∷ bytes "1.5" ∷ bytes "0.01"
    ∷ bytes "10000" ∷ []
unfolding shortest pointed whole_of width
written = refl

-- The lists of NH3 figures and totals are whole: they have every name that begins so, in the order of its number, and
-- no other. Assumes nothing.
use Prim.Native.String.{String}
use mathlib.Core.Path.{◌≡◌, refl}
use mathlib.Core.Bool.{Bool}
use mathlib.Core.List.{List, [], ◌∷◌}
use lib.ListN.{take}
use Rattle.base.specs.Pick.{pick}
use Rattle.base.specs.Text.{bytes}
use Rattle.base.specs.Part.{same_bytes}
use Rattle.outputs.specs.Names.{texts, total_texts}
use Rattle.growing_theorems.specs.Growing.{ammonia, ammonia_totals}

-- the first four bytes
abbrev is_ammonia : String → Bool
is_ammonia t = same_bytes (take 4 (bytes t)) (bytes "nh3_")

abbrev those : (String → Bool) → List String → List String
those f [] = []
those f (t ∷ ts) = pick (f t) (t ∷ those f ts) (those f ts)

pub all-ammonia : those is_ammonia texts ≡ ammonia
unfolding same_bytes
all-ammonia = refl

pub all-totals : those is_ammonia total_texts ≡ ammonia_totals
unfolding same_bytes
all-totals = refl

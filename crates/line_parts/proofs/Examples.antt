-- Labels as fields, and the path of each kind beside those of its inputs, computed from the definitions. Assumes
-- nothing.
use mathlib.Core.Path.{◌≡◌, refl}
use mathlib.Core.Bool.{Bool, true}
use mathlib.Core.List.{[], ◌∷◌, ◌++◌, map}
use lib.ListN.{length, take}
use Rattle.base.specs.Text.{bytes}
use Rattle.base.specs.Part.{same_bytes}
use Rattle.base.specs.Runs.{all}
use Rattle.inputs.specs.declared.Kind.{Kind}
use Rattle.inputs.specs.declared.Kind.TheVariants.{Roughage, Cattle, Pigs, DairyCow}
use Rattle.inputs.specs.Inputs.{Row, rows_of}
use Rattle.line_parts.specs.Fields.{has_comma, label_field}
use Rattle.line_parts.specs.Paths.{path_of}

-- "A label with a comma is quoted"
pub labels-quoted : map label_field (bytes "P1" ∷ bytes "Deer, upper" ∷ []) ≡ bytes "P1" ∷ bytes "\"Deer, upper\"" ∷ []
unfolding label_field has_comma
labels-quoted = refl

-- the modules of a kind's inputs (01, The farm file) stand under the path of its lines
abbrev is_under : Kind → Row → Bool
is_under k r = let front = bytes (path_of k) ++ bytes "::" in same_bytes (take (length front) (bytes r.path)) front

pub inputs-under : (k : Kind) → all (is_under k) (rows_of k) ≡ true
unfolding same_bytes
inputs-under Roughage = refl
inputs-under Cattle = refl
inputs-under Pigs = refl
inputs-under DairyCow = refl

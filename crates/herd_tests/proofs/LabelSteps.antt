-- A label is looked for among those of a farm's herds: `any` of the herds has it exactly where one of the labels is it.
-- Assumes nothing.
use mathlib.Core.Path.{◌≡◌, refl, ap}
use mathlib.Core.Bool.{Bool, ◌||◌}
use mathlib.Core.List.{List, [], ◌∷◌}
use Rattle.std.specs.List.{list_any}
use Rattle.farm.specs.declared.Label.{Label}
use Rattle.farm.specs.declared.Herd.{Herd}
use Rattle.farm.specs.Labels.{same_label}
use Rattle.herd_tests.specs.Tests.{earlier_label}

pub any-labelled : (hs : List Herd) (l : Label) → list_any (λ h. same_label h.label l) hs ≡ earlier_label hs l
unfolding earlier_label
any-labelled [] l = refl
any-labelled (h ∷ hs) l = ap (λ (t : Bool). same_label h.label l || t) (any-labelled hs l)

-- What 12 and 8 ask of a herd (01, Refusal numbers): that it lacks no input, and has the label of no earlier herd. To
-- be believed.
use Rattle.std.specs.Prelude.{ℕ, Bool, true, false, ◌||◌, List, [], ◌∷◌, map, eqb}
use Rattle.inputs.specs.Inputs.{Row, rows_of}
use Rattle.farm.specs.declared.Label.{Label}
use Rattle.farm.specs.declared.Slot.{Slot}
use Rattle.farm.specs.declared.Herd.{Herd}
use Rattle.farm.specs.Labels.{same_label}
use Rattle.farm.specs.Prints.{print_of}
use Rattle.farm.specs.Herds.{is_missing}

-- one of the inputs is missing: its slot says so, or there is none
abbrev pub lacks_one : List Row → List Slot → Bool
lacks_one [] slots = false
lacks_one (row ∷ rows) [] = true
lacks_one (row ∷ rows) (s ∷ slots) = is_missing s.given || lacks_one rows slots

unfoldable pub lacks : Herd → Bool
lacks h = lacks_one (rows_of h.kind) h.slots

-- one of the labels is this one
abbrev pub has_label : List Label → Label → Bool
has_label [] l = false
has_label (x ∷ xs) l = same_label x l || has_label xs l

-- the labels of herds, in their order
abbrev pub labels_of : List Herd → List Label
labels_of hs = map (λ h. h.label) hs

-- one of the herds has the label
unfoldable pub earlier_label : List Herd → Label → Bool
earlier_label hs l = has_label (labels_of hs) l

-- ---- by prints, which mirror the code for its contracts

-- one of the prints is this one
abbrev pub has_print : List ℕ → ℕ → Bool
has_print [] print = false
has_print (x ∷ xs) print = eqb x print || has_print xs print

-- the prints of the herds' labels, in their order
abbrev pub prints_of : List Herd → List ℕ
prints_of hs = map (λ h. print_of h.label) hs

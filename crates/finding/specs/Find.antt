-- Which input of the list a record's module and name are, byte for byte. It mirrors the code for its contracts;
-- proofs/Finds.antt says what it means.
use Rattle.std.specs.Prelude.{ℕ, zero, suc, ◌+◌, ◌-◌, Bool, ◌&&◌, List, [], ◌∷◌, None, Some, Option}
use Rattle.base.specs.Pick.{pick}
use Rattle.base.specs.Text.{bytes}
use Rattle.base.specs.Part.{same_bytes}
use Rattle.words.specs.Find.{modules, input_names, is_at, place_in, Found}
use Rattle.inputs.specs.declared.Kind.{Kind}
use Rattle.inputs.specs.Inputs.{Row, rows_of, kinds, row_at}
use Rattle.inputs.specs.declared.Form.{Form}

-- an input of the list by its kind and slot, and its form, if there is one
abbrev pub FoundInput : Type 0
FoundInput = Option (Kind × ℕ × Form)

-- a module: its kind, and the slots of its inputs, from the first to before the last, if there is such a module
abbrev pub Module : Type 0
Module = Option (Kind × ℕ × ℕ)

-- a record's module m and input name n are the row's
unfoldable pub is_row : List ℕ → List ℕ → Row → Bool
is_row m n row = same_bytes m (bytes row.path) && same_bytes n (bytes row.name)

-- the first row of a kind that passes a test, by its slot, counted on from i; or else what is found elsewhere
unfoldable pub first_row : Kind → (Row → Bool) → ℕ → List Row → FoundInput → FoundInput
first_row k test i [] elsewhere = elsewhere
first_row k test i (row ∷ rows) elsewhere =
    pick (test row) (Some (k, i, row.form)) (first_row k test (i + 1) rows elsewhere)

unfoldable pub find_among : List Kind → List ℕ → List ℕ → FoundInput
find_among [] m n = None
find_among (k ∷ ks) m n = first_row k (is_row m n) 0 (rows_of k) (find_among ks m n)

unfoldable pub find_input : List ℕ → List ℕ → FoundInput
find_input m n = find_among kinds m n

-- ---- in numbers: the module by its place among the modules, the name by its place among the input names

-- the place that is found is that of the row's module, and of its name
unfoldable pub is_placed : Found → Found → Row → Bool
is_placed m n row = is_at m (place_in modules row.path) && is_at n (place_in input_names row.name)

unfoldable pub placed_among : List Kind → Found → Found → FoundInput
placed_among [] m n = None
placed_among (k ∷ ks) m n = first_row k (is_placed m n) 0 (rows_of k) (placed_among ks m n)

unfoldable pub find_placed : Found → Found → FoundInput
find_placed m n = placed_among kinds m n

-- the first that has the name of so many slots of a kind, from this one on
unfoldable pub find_slots : Kind → ℕ → ℕ → Found → FoundInput
find_slots k zero slot n = None
find_slots k (suc more) slot n =
    pick (is_at n (place_in input_names (row_at k slot).name)) (Some (k, slot, (row_at k slot).form))
    (find_slots k more (slot + 1) n)

unfoldable pub find_within : Module → Found → FoundInput
find_within (Some (k, a, b)) n = find_slots k (b - a) a n
find_within None n = None

-- Which of its list a text is, byte for byte. It mirrors the code for its contracts; proofs/Places.antt says what it
-- means.
use Rattle.std.specs.Prelude.{ℕ, ◌+◌, Bool, false, List, [], ◌∷◌, eqb, take, drop, None, Some, Option}
use Prim.Native.String.{String}
use lib.Text.{eqt}
use Rattle.base.specs.Pick.{pick}
use Rattle.base.specs.Text.{bytes}
use Rattle.base.specs.Part.{same_bytes}

-- a place in a list, if there is one
abbrev pub Found : Type 0
Found = Option ℕ

-- the place of the first in a list that passes a test, counted on from i
unfoldable pub first_from : {A : Type 0} → (A → Bool) → ℕ → List A → Found
first_from test i [] = None
first_from test i (x ∷ rest) = pick (test x) (Some i) (first_from test (i + 1) rest)

-- the text is the name
unfoldable pub is_name : List ℕ → String → Bool
is_name s name = same_bytes s (bytes name)

-- the place of a text in a list of names
unfoldable pub find_text : List String → List ℕ → Found
find_text names s = first_from (is_name s) 0 names

-- a found place is this one
abbrev pub is_at : Found → ℕ → Bool
is_at (Some j) k = eqb k j
is_at None k = false

-- ---- the modules and the input names, each once, in the order in which they come in 01's list

abbrev pub modules : List String
modules =
    "Livestock::RoughageConsuming::Excretion"
    ∷ "Livestock::RoughageConsuming::Housing::CFreeFactor"
    ∷ "Livestock::RoughageConsuming::Grazing"
    ∷ "Livestock::OtherCattle::Excretion"
    ∷ "Livestock::OtherCattle::Outdoor"
    ∷ "Livestock::FatteningPigs::Excretion"
    ∷ "Livestock::FatteningPigs::Housing::Type"
    ∷ "Livestock::FatteningPigs::Housing::AirScrubber"
    ∷ "Livestock::FatteningPigs::Housing::MitigationOptions"
    ∷ "Livestock::FatteningPigs::Housing::CFreeFactor"
    ∷ "Livestock::DairyCow::Excretion"
    ∷ "Livestock::DairyCow::Outdoor"
    ∷ []

abbrev pub input_names : List String
input_names =
    "animalcategory"
    ∷ "animals"
    ∷ "inp_n_excretion"
    ∷ "tan_fraction"
    ∷ "free_correction_factor"
    ∷ "grazing_days"
    ∷ "grazing_hours"
    ∷ "yard_days"
    ∷ "exercise_yard"
    ∷ "floor_properties_exercise_yard"
    ∷ "housing_type"
    ∷ "air_scrubber"
    ∷ "mitigation_housing_floor"
    ∷ "mitigation_housing_air"
    ∷ []

-- the place of a name in a list; past the last where it has none
abbrev pub place_in : List String → String → ℕ
place_in [] name = 0
place_in (n ∷ names) name = pick (eqt name n) 0 (1 + place_in names name)

-- the words of a text that have these lengths, with one byte between them
unfoldable pub words_of : List ℕ → List ℕ → List (List ℕ)
words_of s [] = []
words_of s (n ∷ lengths) = take n s ∷ words_of (drop (n + 1) s) lengths

-- the room that words of these lengths need, with one byte behind each
unfoldable pub room_of : List ℕ → ℕ
room_of [] = 0
room_of (n ∷ lengths) = n + 1 + room_of lengths

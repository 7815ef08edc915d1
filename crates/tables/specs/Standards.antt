-- 2.84 and 2.2, Technical Parameters: the nitrogen that an animal of each category, and a dairy cow, excretes in a
-- year, in grams, and the soluble share of it. A category is known by its place in its list, which is in 01's order,
-- counted from 0.
use Rattle.std.specs.Prelude.{ℕ, ◌*◌, List, [], ◌∷◌, get_or}

infix 69 ◌kg
abbrev pub ◌kg : ℕ → ℕ
n kg = n * 1000

infix 69 ◌g
abbrev pub ◌g : ℕ → ℕ
n g = n

-- 2.84, standard_N_excretion, each at the place of its category in 01's list (crate `names`); crate `printed_numbers`
-- holds what 001 prints under each category's name
abbrev pub standards : List ℕ
standards = 20 kg ∷ 40 kg ∷ 80 kg ∷ 60 kg ∷ 20 kg ∷ 17 kg ∷ 11 kg ∷ 11 kg ∷ 7 kg ∷ 2600 g ∷ 790 g ∷ []

-- the standard of a category; 0 past the last
unfoldable pub standard_of : ℕ → ℕ
standard_of category = get_or standards category 0

-- share_Nsol, 0.4 for each category, in ten-thousandths
abbrev pub share_Nsol : ℕ
share_Nsol = 4000

-- ---- 2.2: a dairy cow

-- standard_N_excretion
abbrev pub dairy_standard : ℕ
dairy_standard = 112 kg

-- share_Nsol, 0.55, in ten-thousandths
abbrev pub dairy_share : ℕ
dairy_share = 5500

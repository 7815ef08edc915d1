-- 02, W12: "The farm's herds move into a lent array of herd records"; "What a caller's array holds beyond the last herd
-- stays as it was"; 9 "when the array or the 512 is full, also where a farm record is checked". To be believed.
use Rattle.std.specs.Prelude.{ℕ, ◌+◌, List, [], ◌∷◌, length, take, replicate, ltb}
use Rattle.base.specs.Pick.{pick}
use Rattle.farm.specs.declared.Herd.{Herd}
use Rattle.farm.specs.declared.Farm.{Farm}
use Rattle.farm.specs.Limits.{herds_most}
use Rattle.farm.specs.Herds.{no_herd}

-- these over the entries of an array, from the front; the others stay
abbrev pub laid : {A : Type 0} → List A → List A → List A
laid [] old = old
laid (h ∷ hs) [] = []
laid (h ∷ hs) (y ∷ old) = h ∷ laid hs old

-- how many herds a farm's record of `count` herds in an array of `len` entries has: where the array is shorter, more
-- than any farm
abbrev pub count_in : ℕ → ℕ → ℕ
count_in len count = pick (ltb len count) (herds_most + 1) count

-- the farm of so many herds that were in an array of so many entries
abbrev pub farm_from : List Herd → ℕ → ℕ → Farm
farm_from hs count len = record { herds = hs; count = count_in len count }

-- room for a farm's herds
abbrev pub blank_herds : List Herd
blank_herds = replicate herds_most no_herd

-- the farm of the first `count` entries of an array
unfoldable pub farm_in : List Herd → ℕ → Farm
farm_in hs count = farm_from (laid (take count hs) blank_herds) count (length hs)

-- What the proofs attain: how far the cuts can take each figure of each kind of herd from its exact value, below it and
-- above it. A cut leaves a figure less than a gram too small; what is then taken away from another makes that too
-- large. A figure that is left out is exact.
use Rattle.std.specs.Prelude.{ℕ, List, [], ◌∷◌, get_or}
use Prim.Native.String.{String}
use Rattle.cut_division.specs.Total.{total}
use Rattle.kinds.specs.declared.Inputs.{Inputs}
use Rattle.kinds.specs.declared.Inputs.TheVariants as kinds
use Rattle.outputs.specs.Names.{texts, addends}
use Rattle.nearness_theorems.specs.ByName.{Entry, said_at}

abbrev pub millionths : ℕ
millionths = 1_000_000

-- at most so many millionths of a gram below the exact value, and at most so many above it
pub record Errors : Type 0 where
  pub below : ℕ
  pub above : ℕ

abbrev pub exactly : Errors
exactly = record { below = 0; above = 0 }

infix 70 ◌is◌below◌above
abbrev ◌is◌below◌above : String → ℕ → ℕ → Entry Errors
t is lo below hi above = record { name = t; says = record { below = lo; above = hi } }

abbrev pub roughage_errors : List (Entry Errors)
roughage_errors =
    "tan_excretion" is 1_000_000 below 0 above
    ∷ "n_into_grazing" is 1_000_000 below 0 above
    ∷ "tan_into_grazing" is 2_000_000 below 0 above
    ∷ "nh3_ngrazing" is 1_250_000 below 0 above
    ∷ "no_ngrazing" is 1_005_500 below 0 above
    ∷ "n2o_ngrazing" is 1_010_000 below 0 above
    ∷ "n_remain_grazing" is 1_000_000 below 3_265_500 above
    ∷ "tan_remain_grazing" is 2_000_000 below 3_265_500 above
    ∷ "n_into_housing" is 0 below 1_000_000 above
    ∷ "tan_into_housing" is 1_000_000 below 2_000_000 above
    ∷ "nh3_nhousing" is 9_650_001 below 2_550_001 above
    ∷ "n_outhousing" is 2_550_001 below 10_650_001 above
    ∷ "tan_outhousing" is 3_550_001 below 11_650_001 above
    ∷ []

abbrev pub cattle_errors : List (Entry Errors)
cattle_errors =
    "tan_excretion" is 1_000_000 below 0 above
    ∷ "n_into_yard" is 1_000_000 below 0 above
    ∷ "tan_into_yard" is 2_000_000 below 0 above
    ∷ "nh3_nyard" is 3_000_000 below 0 above
    ∷ "n_outyard_liquid" is 1_000_000 below 3_000_000 above
    ∷ "tan_outyard_liquid" is 2_000_000 below 3_000_000 above
    ∷ "n_into_grazing" is 1_000_000 below 0 above
    ∷ "tan_into_grazing" is 2_000_000 below 0 above
    ∷ "nh3_ngrazing" is 1_166_000 below 0 above
    ∷ "no_ngrazing" is 1_005_500 below 0 above
    ∷ "n2o_ngrazing" is 1_020_000 below 0 above
    ∷ "n_remain_grazing" is 1_000_000 below 3_191_500 above
    ∷ "tan_remain_grazing" is 2_000_000 below 3_191_500 above
    ∷ "n_into_housing" is 0 below 2_000_000 above
    ∷ "tan_into_housing" is 1_000_000 below 4_000_000 above
    ∷ []

abbrev pub pigs_errors : List (Entry Errors)
pigs_errors =
    "tan_excretion" is 1_000_000 below 0 above
    ∷ "tan_into_grazing" is 1_000_000 below 0 above
    ∷ "nh3_ngrazing" is 1_200_000 below 0 above
    ∷ "no_ngrazing" is 1_000_000 below 0 above
    ∷ "n2o_ngrazing" is 1_000_000 below 0 above
    ∷ "n_remain_grazing" is 0 below 3_200_000 above
    ∷ "tan_remain_grazing" is 1_000_000 below 3_200_000 above
    ∷ "tan_into_housing" is 1_000_000 below 0 above
    ∷ "nh3_nhousing" is 2_000_000 below 0 above
    ∷ "n_outhousing" is 0 below 5_000_000 above
    ∷ "tan_outhousing" is 1_000_000 below 5_000_000 above
    ∷ "tan_air_scrubber" is 3_000_000 below 0 above
    ∷ "n_outhousing_liquid" is 0 below 5_000_000 above
    ∷ "tan_outhousing_liquid" is 1_000_000 below 5_000_000 above
    ∷ "n_outhousing_solid" is 0 below 5_000_000 above
    ∷ "tan_outhousing_solid" is 1_000_000 below 5_000_000 above
    ∷ "n2_nsolid" is 1_000_000 below 0 above
    ∷ "no_nsolid" is 1_000_000 below 0 above
    ∷ "n2o_nsolid" is 1_000_000 below 0 above
    ∷ "n2_nliquid" is 1_000_000 below 0 above
    ∷ "no_nliquid" is 1_000_000 below 0 above
    ∷ "n2o_nliquid" is 1_000_000 below 0 above
    ∷ []

-- a herd's
abbrev pub errors_of : Inputs → List (Entry Errors)
errors_of (kinds.Roughage r) = roughage_errors
errors_of (kinds.Cattle c) = cattle_errors
errors_of (kinds.Pigs p) = pigs_errors

-- by number
unfoldable pub errors_at : Inputs → ℕ → Errors
errors_at i n = said_at exactly (errors_of i) texts n

-- ---- totals (2.1)

-- the errors of these figures together
abbrev pub summed_errors : Inputs → List ℕ → Errors
summed_errors i ns =
    record { below = total (λ n. (errors_at i n).below) ns; above = total (λ n. (errors_at i n).above) ns }

-- what a herd brings into a total
unfoldable pub total_errors : Inputs → ℕ → Errors
total_errors i t = summed_errors i (get_or addends t [])

-- What goes in comes out: the balances that hold between the figures of a herd, and between the totals of a farm, in
-- whole grams and after all cuts. proofs/Kept.antt shows them of every record that is accepted.
use Prim.Native.String.{String}
use Rattle.std.specs.Prelude.{◌≡◌, List, [], ◌∷◌, ◌++◌, ℤ}
use Rattle.base.specs.Each.{Each}
use Rattle.cut_division.specs.Total.{signed_total}
use Rattle.outputs.specs.declared.Figures.{Figures}
use Rattle.outputs.specs.declared.Totals.{Totals}
use Rattle.outputs.specs.Grams.{figure, total}

-- an amount, and where it goes
pub record Balance : Type 0 where
  pub amount : String
  pub parts : List String

infix 68 ◌goes◌
abbrev ◌goes◌ : String → List String → Balance
a goes ps = record { amount = a; parts = ps }

-- the amount is its parts together, by the grams of each name
pub record Balanced (grams : String → ℤ) (b : Balance) : Type 0 where
  pub kept : grams b.amount ≡ signed_total grams b.parts

-- what is excreted goes onto the yard, onto pasture and into the housing; what comes onto pasture is emitted there or
-- remains (of the TAN less than nothing may remain, and the balance holds then too)
abbrev pub farm_balances : List Balance
farm_balances =
    "n_excretion" goes ("n_into_yard" ∷ "n_into_grazing" ∷ "n_into_housing" ∷ [])
    ∷ "tan_excretion" goes ("tan_into_yard" ∷ "tan_into_grazing" ∷ "tan_into_housing" ∷ [])
    ∷ "n_into_grazing" goes ("nh3_ngrazing" ∷ "n2_ngrazing" ∷ "no_ngrazing" ∷ "n2o_ngrazing" ∷ "n_remain_grazing" ∷ [])
    ∷ "tan_into_grazing" goes
    ("nh3_ngrazing" ∷ "n2_ngrazing" ∷ "no_ngrazing" ∷ "n2o_ngrazing" ∷ "tan_remain_grazing" ∷ [])
    ∷ []

-- what comes onto the yard is emitted there or leaves it; the totals do not list what leaves it
abbrev pub yard_balances : List Balance
yard_balances =
    "n_into_yard" goes ("nh3_nyard" ∷ "n_outyard_liquid" ∷ [])
    ∷ "tan_into_yard" goes ("nh3_nyard" ∷ "tan_outyard_liquid" ∷ [])
    ∷ []

-- what goes into the housing is emitted there or leaves it: so 01 follows it for roughage-consuming animals
abbrev pub housing_balances : List Balance
housing_balances =
    "n_into_housing" goes ("nh3_nhousing" ∷ "n_outhousing" ∷ [])
    ∷ "tan_into_housing" goes ("nh3_nhousing" ∷ "tan_outhousing" ∷ [])
    ∷ []

-- 02, W1: what goes into a pig house is emitted there, kept back by its scrubber, or leaves it as slurry or as solid
-- manure
abbrev pub pig_house_balances : List Balance
pig_house_balances =
    "n_into_housing" goes ("nh3_nhousing" ∷ "tan_air_scrubber" ∷ "n_outhousing_liquid" ∷ "n_outhousing_solid" ∷ [])
    ∷ "tan_into_housing"
    goes ("nh3_nhousing" ∷ "tan_air_scrubber" ∷ "tan_outhousing_liquid" ∷ "tan_outhousing_solid" ∷ [])
    ∷ []

-- every kind of herd
abbrev pub Keeps : Figures → Type 0
Keeps f = Each (Balanced (λ (t : String). figure t f)) (farm_balances ++ yard_balances)

abbrev pub KeepsHousing : Figures → Type 0
KeepsHousing f = Each (Balanced (λ (t : String). figure t f)) housing_balances

abbrev pub KeepsPigHouse : Figures → Type 0
KeepsPigHouse f = Each (Balanced (λ (t : String). figure t f)) pig_house_balances

-- a farm's totals, where 01 lists both sides
abbrev pub KeepsTotals : Totals → Type 0
KeepsTotals t = Each (Balanced (λ (n : String). total n t)) farm_balances

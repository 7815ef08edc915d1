-- Demand 3 in numbers: within how many grams of its exact value each figure of a herd lies, and each total, herd by
-- herd and for each of its herds.
use Rattle.std.specs.Prelude.{ℕ, List, [], ◌∷◌, map, ltb, get_or}
use Prim.Native.String.{String}
use Rattle.base.specs.Pick.{pick}
use Rattle.cut_division.specs.Total.{total}
use Rattle.kinds.specs.declared.Inputs.{Inputs}
use Rattle.kinds.specs.declared.Inputs.TheVariants as kinds
use Rattle.outputs.specs.Names.{texts, total_texts, addends}
use Rattle.nearness_theorems.specs.ByName.{Entry, said_at}

-- of every figure and total that no table below names
abbrev pub promised : ℕ
promised = 10

abbrev pub Bound : Type 0
Bound = Entry ℕ

infix 70 ◌within◌
abbrev pub ◌within◌ : String → ℕ → Bound
t within grams = record { name = t; says = grams }

-- the figures of each kind of herd, and the totals, of which something else is promised. 02, W1: "40 grams for these
-- new figures, and for each total 40 grams a herd where such a figure enters it". 02, W3: "20 grams for roughage
-- housing figures and 20 a herd for totals they enter, unless W1 already gives more"
abbrev pub widened : Inputs → List Bound
widened (kinds.Roughage r) = "nh3_nhousing" within 20 ∷ "n_outhousing" within 20 ∷ "tan_outhousing" within 20 ∷ []
widened (kinds.Cattle c) = []
widened (kinds.Pigs p) =
    "nh3_nhousing" within 40
    ∷ "n_outhousing" within 40
    ∷ "tan_outhousing" within 40
    ∷ "tan_air_scrubber" within 40
    ∷ "n_outhousing_liquid" within 40
    ∷ "tan_outhousing_liquid" within 40
    ∷ "n_outhousing_solid" within 40
    ∷ "tan_outhousing_solid" within 40
    ∷ "n2_nsolid" within 40
    ∷ "no_nsolid" within 40
    ∷ "n2o_nsolid" within 40
    ∷ "n2_nliquid" within 40
    ∷ "no_nliquid" within 40
    ∷ "n2o_nliquid" within 40
    ∷ []

abbrev pub widened_totals : List Bound
widened_totals =
    "nh3_nhousing" within 40
    ∷ "nh3_nhousing_and_yard" within 40
    ∷ "nh3_nlivestock" within 40
    ∷ []

-- by number
unfoldable pub promised_at : Inputs → ℕ → ℕ
promised_at i n = said_at promised (widened i) texts n

unfoldable pub promised_of_total : ℕ → ℕ
promised_of_total t = said_at promised widened_totals total_texts t

-- ---- herd by herd: a herd has 40 or 20 grams in a total only where such a figure of its own enters it, and else 10

abbrev pub widest : List ℕ → ℕ
widest [] = 0
widest (b ∷ bs) = pick (ltb (widest bs) b) b (widest bs)

-- of these figures of a herd together: the widest of their bounds
abbrev pub promised_together : Inputs → List ℕ → ℕ
promised_together i ns = widest (map (promised_at i) ns)

-- of what a herd brings into a total
unfoldable pub promised_in_total : Inputs → ℕ → ℕ
promised_in_total i t = promised_together i (get_or addends t [])

-- and so of a total of these herds
abbrev pub promised_by_herd : List Inputs → ℕ → ℕ
promised_by_herd l t = total (λ i. promised_in_total i t) l

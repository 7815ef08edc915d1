-- Grams by number: a herd's figures, the sum of two herds', and the totals of a farm. To be believed: what a figure and
-- a total are under a name (`figure`, `total`), and what a farm's totals are (`totals_of`). The others say where the
-- code's sections have the grams, which `sections_agree` of crate `herd` holds to the names, and how the code adds up,
-- and that no sum passes 64 bits; that they give the totals is `totals-of-sum` (proofs/Adding.antt).
use Rattle.std.specs.Prelude.{ℕ, zero, suc, ◌^◌, ◌≤◌, List, [], ◌∷◌, length, get_or, ℤ, pos, nat_abs, ◌+ℤ◌}
use Prim.Native.String.{String}
use Rattle.cut_division.specs.Total.{add_up, signed_total}
use Rattle.amounts.specs.Arithmetic.{cutting}
use Rattle.outputs.specs.declared.Figures.{Figures}
use Rattle.outputs.specs.declared.Sections.{Sections}
use Rattle.outputs.specs.declared.Totals.{Totals}
use Rattle.outputs.specs.Sections.{FiguresIn}
use Rattle.outputs.specs.Names.{rows, figures, number, totals, total_number, addends}

abbrev pub grams_of : FiguresIn cutting → List ℤ
grams_of f = figures cutting f

-- the grams of a number; past the last 0
abbrev pub grams_at : List ℤ → ℕ → ℤ
grams_at g n = get_or g n (pos 0)

-- a herd's figure under a name, and a farm's total under one
abbrev pub figure : String → Figures → ℤ
figure t f = grams_at f.grams (number t)

abbrev pub total : String → Totals → ℤ
total t f = grams_at f.grams (total_number t)

-- the grams of the code's sections, in the order of their numbers
abbrev pub grams_in : Sections → List ℤ
grams_in s =
    pos s.excretion.n_excretion
    ∷ pos s.excretion.tan_excretion.whole
    ∷ pos s.yard.into.n.whole
    ∷ pos s.yard.into.tan.whole
    ∷ pos s.yard.nh3_nyard.whole
    ∷ pos s.yard.n_outyard_liquid
    ∷ pos s.yard.tan_outyard_liquid
    ∷ pos s.grazing.into.n.whole
    ∷ pos s.grazing.into.tan.whole
    ∷ pos s.grazing.gases.nh3.whole
    ∷ pos s.grazing.gases.n2.whole
    ∷ pos s.grazing.gases.no.whole
    ∷ pos s.grazing.gases.n2o.whole
    ∷ pos s.grazing.n_remain_grazing
    ∷ s.grazing.tan_remain_grazing
    ∷ pos s.housing.n_into_housing
    ∷ pos s.housing.tan_into_housing
    ∷ pos s.housing.nh3_nhousing.whole
    ∷ pos s.housing.n_outhousing
    ∷ pos s.housing.tan_outhousing
    ∷ pos s.pig_house.scrubbed.times_ef_housing_indoor_before_air_scrubber.whole
    ∷ pos s.pig_house.n_outhousing_liquid
    ∷ pos s.pig_house.tan_outhousing_liquid
    ∷ pos s.pig_house.n_outhousing_solid
    ∷ pos s.pig_house.tan_outhousing_solid
    ∷ pos s.nx_ox.n2_nsolid.whole
    ∷ pos s.nx_ox.no_nsolid.whole
    ∷ pos s.nx_ox.n2o_nsolid.whole
    ∷ pos s.nx_ox.n2_nliquid.whole
    ∷ pos s.nx_ox.no_nliquid.whole
    ∷ pos s.nx_ox.n2o_nliquid.whole
    ∷ []

-- ---- lists of grams by a rule

abbrev pub rule_from : ℕ → ℕ → (ℕ → ℤ) → List ℤ
rule_from i zero f = []
rule_from i (suc k) f = f i ∷ rule_from (suc i) k f

-- the k numbers' grams by a rule
unfoldable pub by_number : ℕ → (ℕ → ℤ) → List ℤ
by_number k f = rule_from 0 k f

-- ---- a farm's totals

-- 2.1: for each addend of the total, its figure summed over the herds
unfoldable pub farm_total : List Figures → ℕ → ℤ
farm_total l t = signed_total (λ n. signed_total (λ (f : Figures). grams_at f.grams n) l) (get_or addends t [])

unfoldable pub totals_of : List Figures → Totals
totals_of l = record { grams = by_number (length totals) (farm_total l) }

-- ---- as the code adds up

abbrev pub plus_grams : List ℤ → List ℤ → List ℤ
plus_grams a b = by_number (length rows) (λ n. grams_at a n +ℤ grams_at b n)

abbrev pub zeros : List ℤ
zeros = by_number (length rows) (λ n. pos 0)

abbrev pub no_figures : Figures
no_figures = record { grams = zeros }

-- the figures g of each of a list, added up
abbrev pub summed : {A : Type 0} → (A → Figures) → List A → List ℤ
summed g l = add_up plus_grams (λ a. (g a).grams) zeros l

-- the sum of the grams of a total's addends
unfoldable pub total_at : List ℤ → ℕ → ℤ
total_at g t = signed_total (grams_at g) (get_or addends t [])

abbrev pub total_grams : List ℤ → List ℤ
total_grams g = by_number (length totals) (total_at g)

-- ---- bounds

-- no figure is larger than k
pub record GramsTo (k : ℕ) (g : List ℤ) : Type 0 where
  pub most : (n : ℕ) → nat_abs (grams_at g n) ≤ k

-- so that up to three of them fit an i64: nh3_nlivestock is the sum of three
abbrev pub figure_most : ℕ
figure_most = 2 ^ 61

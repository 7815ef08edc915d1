-- A herd's cuts by number: what was cut off, and the divisor. To be believed: what they are under a name, and which
-- names have one.
use Rattle.std.specs.Prelude.{ℕ, Bool, true, false, List, [], ◌∷◌, map, ltb, get_or}
use Prim.Native.String.{String}
use Rattle.cut_division.specs.declared.Quotient.{Quotient}
use Rattle.outputs.specs.declared.Sections.{Sections}
use Rattle.cuts.specs.declared.Cuts.{Cuts}
use Rattle.cuts.specs.Names.{Row, rows, texts, cut_number}

-- what was cut off under a name, and its divisor
abbrev pub cut_off : String → Cuts → ℕ
cut_off t c = get_or c.cut_off (cut_number t) 0

abbrev pub divisor_of : String → Cuts → ℕ
divisor_of t c = get_or c.divisor (cut_number t) 0

-- a cut was made under this name: its divisor is above 0
abbrev pub is_made : Cuts → String → Bool
is_made c t = ltb 0 (divisor_of t c)

-- those of a list that pass a test
abbrev pub with_first : {A : Type 0} → Bool → A → List A → List A
with_first true x xs = x ∷ xs
with_first false x xs = xs

abbrev pub passing : {A : Type 0} → (A → Bool) → List A → List A
passing test [] = []
passing test (x ∷ xs) = with_first (test x) x (passing test xs)

-- the names under which cuts were made, in the order of their numbers
abbrev pub names_made : Cuts → List String
names_made c = passing (is_made c) texts

-- ---- as the code has them

abbrev pub cuts_from : List Quotient → Cuts
cuts_from qs =
    record { cut_off = map (λ (q : Quotient). q.cut_off) qs; divisor = map (λ (q : Quotient). q.divisor) qs }

abbrev pub no_cuts : Cuts
no_cuts = record { cut_off = map (λ (r : Row). 0) rows; divisor = map (λ (r : Row). 0) rows }

-- the quotients of the sections in the order of their numbers
abbrev pub in_order : Sections → List Quotient
in_order s =
    s.excretion.tan_excretion
    ∷ s.yard.into.n
    ∷ s.yard.into.tan
    ∷ s.yard.nh3_nyard
    ∷ s.grazing.into.n
    ∷ s.grazing.into.tan
    ∷ s.grazing.gases.nh3
    ∷ s.grazing.gases.n2
    ∷ s.grazing.gases.no
    ∷ s.grazing.gases.n2o
    ∷ s.housing.factors.c_grazing
    ∷ s.housing.factors.times_er_housing
    ∷ s.housing.factors.times_c_free_factor_housing
    ∷ s.pig_house.factors.before_times_c_free_factor_housing
    ∷ s.pig_house.factors.before_times_red_housing_air
    ∷ s.pig_house.factors.ef_housing_indoor
    ∷ s.pig_house.factors.grazing_times_c_free_factor_housing
    ∷ s.pig_house.factors.times_ef_housing_indoor
    ∷ s.pig_house.factors.times_ef_housing_grazing
    ∷ s.housing.nh3_nhousing
    ∷ s.pig_house.scrubbed.times_tan_excretion
    ∷ s.pig_house.scrubbed.times_ef_housing_indoor_before_air_scrubber
    ∷ s.nx_ox.n2_nsolid
    ∷ s.nx_ox.no_nsolid
    ∷ s.nx_ox.n2o_nsolid
    ∷ s.nx_ox.n2_nliquid
    ∷ s.nx_ox.no_nliquid
    ∷ s.nx_ox.n2o_nliquid
    ∷ []

-- 02, W7: the names of the cuts, once: a row a name, in the order of their numbers, which is that of the listing, a
-- factor's cuts before the figure that they enter. A cut that gives a figure has the figure's name and section. Where
-- one output is cut more than once, the name is the output's, a colon and the factor that was just multiplied in. To be
-- believed: the rows.
use Rattle.std.specs.Prelude.{ℕ, List, [], ◌∷◌, map, get_or, pos}
use Prim.Native.String.{String}
use Rattle.amounts.specs.Dividing.{Divided, uncut, Left, dividing}
use Rattle.housing.specs.Housing.{FactorsIn}
use Rattle.pig_house.specs.PigHouse.{PigFactorsIn, ScrubbedIn}
use Rattle.outputs.specs.Sections.{FiguresIn}
use Rattle.outputs.specs.Names.{figures, number, section_of, place}

-- a name: its text, its section, and which division it is the name of
pub record Row : Type 0 where
  pub text : String
  pub section : String
  pub division : FiguresIn dividing → Divided

abbrev pub no_figure : Left
no_figure = record { left = pos 0; amount = uncut 0 }

-- the division that gives the figure of this name
abbrev pub gives_figure : String → FiguresIn dividing → Divided
gives_figure t f = (get_or (figures dividing f) (number t) no_figure).amount

abbrev figure : String → Row
figure t = record { text = t; section = section_of t; division = gives_figure t }

-- a factor of the housing
abbrev factor : String → (FactorsIn dividing → Divided) → Row
factor t f = record { text = t; section = "Housing"; division = λ h. f h.factors }

-- a factor of a pig house, and of what its scrubber keeps
abbrev pig_factor : String → (PigFactorsIn dividing → Divided) → Row
pig_factor t f = record { text = t; section = "Housing"; division = λ h. f h.pig_factors }

abbrev scrubber : String → (ScrubbedIn dividing → Divided) → Row
scrubber t f = record { text = t; section = "Housing"; division = λ h. f h.scrubbed }

abbrev pub rows : List Row
rows =
    figure "tan_excretion"
    ∷ figure "n_into_yard"
    ∷ figure "tan_into_yard"
    ∷ figure "nh3_nyard"
    ∷ figure "n_into_grazing"
    ∷ figure "tan_into_grazing"
    ∷ figure "nh3_ngrazing"
    ∷ figure "n2_ngrazing"
    ∷ figure "no_ngrazing"
    ∷ figure "n2o_ngrazing"
    ∷ factor "c_grazing" (λ f. f.c_grazing)
    ∷ factor "ef_nh3_nhousing:er_housing" (λ f. f.times_er_housing)
    ∷ factor "ef_nh3_nhousing:c_free_factor_housing" (λ f. f.times_c_free_factor_housing)
    ∷ pig_factor "ef_housing_indoor_before_air_scrubber:c_free_factor_housing"
    (λ f. f.before_times_c_free_factor_housing)
    ∷ pig_factor "ef_housing_indoor_before_air_scrubber:red_housing_air" (λ f. f.before_times_red_housing_air)
    ∷ pig_factor "ef_housing_indoor" (λ f. f.ef_housing_indoor)
    ∷ pig_factor "ef_housing_grazing:c_free_factor_housing" (λ f. f.grazing_times_c_free_factor_housing)
    ∷ pig_factor "ef_nh3_nhousing:ef_housing_indoor" (λ f. f.times_ef_housing_indoor)
    ∷ pig_factor "ef_nh3_nhousing:ef_housing_grazing" (λ f. f.times_ef_housing_grazing)
    ∷ figure "nh3_nhousing"
    ∷ scrubber "tan_air_scrubber:tan_excretion" (λ s. s.times_tan_excretion)
    ∷ scrubber "tan_air_scrubber:ef_housing_indoor_before_air_scrubber"
    (λ s. s.times_ef_housing_indoor_before_air_scrubber)
    ∷ figure "n2_nsolid"
    ∷ figure "no_nsolid"
    ∷ figure "n2o_nsolid"
    ∷ figure "n2_nliquid"
    ∷ figure "no_nliquid"
    ∷ figure "n2o_nliquid"
    ∷ []

-- ---- by number

abbrev pub texts : List String
texts = map (λ (r : Row). r.text) rows

-- a name's number
abbrev pub cut_number : String → ℕ
cut_number t = place t texts

-- the division of a name
abbrev pub division_of : String → FiguresIn dividing → Divided
division_of t h = get_or (map (λ (r : Row). r.division h) rows) (cut_number t) (uncut 0)

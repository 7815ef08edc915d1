-- 02, W7: a herd's cuts, kind by kind: under each name of its kind's list what the formula's division cuts off, and the
-- divisor. To be believed.
use Rattle.std.specs.Prelude.{ℕ, ◌+◌, ◌*◌, ◌<◌, ◌≡◌, Bool, List, [], ◌∷◌, ◌++◌, map, ltb, length}
use Prim.Native.String.{String}
use Rattle.base.specs.Pick.{pick}
use Rattle.cut_division.specs.declared.Quotient.{Quotient}
use Rattle.cut_division.specs.Cut.{undivided}
use Rattle.amounts.specs.Units.{year, day}
use Rattle.amounts.specs.Dividing.{dividing, handed, worth, dividend}
use Rattle.kinds.specs.declared.AirScrubber.{AirScrubber}
use Rattle.kinds.specs.declared.AirScrubber.TheVariants as scrubber
use Rattle.kinds.specs.declared.Inputs.{Inputs}
use Rattle.kinds.specs.declared.Inputs.TheVariants as kinds
use Rattle.outputs.specs.Sections.{FiguresIn}
use Rattle.outputs.specs.Names.{place}
use Rattle.herd.specs.Herd.{figures_in}
use Rattle.cuts.specs.declared.Cuts.{Cuts}
use Rattle.cuts.specs.Names.{Row, rows, division_of}
use Rattle.cuts.specs.Cuts.{cut_off, divisor_of, cuts_from}

-- ---- the names of each kind, in the order of the listing

abbrev into_grazing : List String
into_grazing = "n_into_grazing" ∷ "tan_into_grazing" ∷ []

abbrev gases : List String
gases = "nh3_ngrazing" ∷ "n2_ngrazing" ∷ "no_ngrazing" ∷ "n2o_ngrazing" ∷ []

-- before and behind the name c_grazing
abbrev before_growth : List String
before_growth = "tan_excretion" ∷ into_grazing ++ gases

abbrev behind_growth : List String
behind_growth = "ef_nh3_nhousing:er_housing" ∷ "ef_nh3_nhousing:c_free_factor_housing" ∷ "nh3_nhousing" ∷ []

abbrev pub roughage_names : List String
roughage_names = before_growth ++ "c_grazing" ∷ behind_growth

-- a kind with the module `Outdoor`
abbrev pub outdoor_names : List String
outdoor_names = "tan_excretion" ∷ "n_into_yard" ∷ "tan_into_yard" ∷ "nh3_nyard" ∷ into_grazing ++ gases

-- 2.51, the factors of a pig house
abbrev pig_factor_names : List String
pig_factor_names =
    "ef_housing_indoor_before_air_scrubber:c_free_factor_housing"
    ∷ "ef_housing_indoor_before_air_scrubber:red_housing_air"
    ∷ "ef_housing_indoor"
    ∷ "ef_housing_grazing:c_free_factor_housing"
    ∷ "ef_nh3_nhousing:ef_housing_indoor"
    ∷ "ef_nh3_nhousing:ef_housing_grazing"
    ∷ []

-- 2.51, tan_air_scrubber
abbrev scrubber_names : List String
scrubber_names = "tan_air_scrubber:tan_excretion" ∷ "tan_air_scrubber:ef_housing_indoor_before_air_scrubber" ∷ []

-- 2.62
abbrev nx_ox_names : List String
nx_ox_names = "n2_nsolid" ∷ "no_nsolid" ∷ "n2o_nsolid" ∷ "n2_nliquid" ∷ "no_nliquid" ∷ "n2o_nliquid" ∷ []

-- what pigs put on pasture is all or nothing, and no cut; before the scrubber
abbrev before_scrubber : List String
before_scrubber = "tan_excretion" ∷ gases ++ pig_factor_names ++ "nh3_nhousing" ∷ []

abbrev pub pigs_names : List String
pigs_names = before_scrubber ++ scrubber_names ++ nx_ox_names

abbrev pub names_of : Inputs → List String
names_of (kinds.Roughage r) = roughage_names
names_of (kinds.Cattle c) = outdoor_names
names_of (kinds.Pigs p) = pigs_names

-- 2.51: only a biotrickling filter keeps something back
abbrev pub pigs_made : AirScrubber → List String
pigs_made scrubber.Acid = before_scrubber ++ nx_ox_names
pigs_made scrubber.Biotrickling = pigs_names
pigs_made scrubber.None = before_scrubber ++ nx_ox_names

-- which of them are made: a roughage herd that is out for the whole year has c = 1, and no cut for it (2.87)
abbrev pub made_names : Inputs → List String
made_names (kinds.Roughage r) =
    pick (ltb (r.grazing_days * r.grazing_hours) (year * day)) roughage_names (before_growth ++ behind_growth)
made_names (kinds.Cattle c) = outdoor_names
made_names (kinds.Pigs p) = pigs_made p.air_scrubber

-- ---- a herd's cuts

abbrev pub is_of : List String → String → Bool
is_of names t = ltb (place t names) (length names)

-- what is handed back under a row's name, where it is one of the list
abbrev pub cut_under : List String → FiguresIn dividing → Row → Quotient
cut_under names h r = pick (is_of names r.text) (handed (r.division h)) (undivided 0)

abbrev pub cuts_under : List String → FiguresIn dividing → Cuts
cuts_under names h = cuts_from (map (cut_under names h) rows)

unfoldable pub cuts_of : Inputs → Cuts
cuts_of i = cuts_under (names_of i) (figures_in dividing i)

-- ---- what is promised of them

-- the dividend that a herd's formula names, and the quotient that it gives
abbrev pub dividend_of : String → Inputs → ℕ
dividend_of t i = dividend (division_of t (figures_in dividing i))

abbrev pub quotient_under : String → Inputs → ℕ
quotient_under t i = worth (division_of t (figures_in dividing i))

-- "Quotient times divisor plus what was cut off is the dividend, always."
pub record AddsUp (i : Inputs) (c : Cuts) (t : String) : Type 0 where
  pub back : quotient_under t i * divisor_of t c + cut_off t c ≡ dividend_of t i
  pub less : cut_off t c < divisor_of t c

-- Cuts as they are printed, computed from the definitions: those of cattle, and one under every name. Assumes nothing.
use Prim.Native.Nat.{ℕ}
use Prim.Native.String.{String}
use mathlib.Core.Path.{◌≡◌, refl}
use mathlib.Core.List.{List, [], ◌∷◌, map}
use lib.Text.{eqt}
use Rattle.base.specs.Pick.{pick}
use Rattle.base.specs.Text.{bytes}
use Rattle.decimal.specs.Writing.{width, whole_of}
use Rattle.inputs.specs.declared.Kind.TheVariants.{Cattle, Pigs}
use Rattle.line_parts.specs.Fields.{has_comma, label_field, each}
use Rattle.cuts.specs.declared.Cuts.{Cuts}
use Rattle.cuts.specs.Names.{texts, cut_number}
use Rattle.lines_cuts.specs.Lines.{numbers_of, cut_line, cut_lines}

-- a cut: its name, what was cut off, its divisor
pub record Named : Type 0 where
  pub name : String
  pub off : ℕ
  pub by : ℕ

infix 68 ◌leaves◌of◌
abbrev ◌leaves◌of◌ : String → ℕ → ℕ → Named
t leaves off of by = record { name = t; off = off; by = by }

-- these cuts by number, and 0 under any other name
abbrev under : (Named → ℕ) → List Named → String → ℕ
under its [] t = 0
under its (c ∷ cs) t = pick (eqt t c.name) (its c) (under its cs t)

abbrev cuts_named : List Named → Cuts
cuts_named cs =
    record { cut_off = map (under (λ c. c.off) cs) texts; divisor = map (under (λ c. c.by) cs) texts }

-- 23 heifers of 41.3 kg, with yard and pasture
abbrev heifers : Cuts
heifers =
    cuts_named
    ("tan_excretion" leaves 0 of 10000
    ∷ "n_into_yard" leaves 150 of 3650
    ∷ "tan_into_yard" leaves 2090 of 3650
    ∷ "nh3_nyard" leaves 68250000 of 100000000
    ∷ "n_into_grazing" leaves 576000 of 876000
    ∷ "tan_into_grazing" leaves 667200 of 876000
    ∷ "nh3_ngrazing" leaves 320 of 10000
    ∷ "n2_ngrazing" leaves 0 of 10000
    ∷ "no_ngrazing" leaves 440 of 10000
    ∷ "n2o_ngrazing" leaves 1600 of 10000
    ∷ [])

abbrev heifers_lines : List String
heifers_lines =
    "Heifers,Livestock::OtherCattle::Excretion,tan_excretion,0,10000\r\n"
    ∷ "Heifers,Livestock::OtherCattle::Yard,n_into_yard,150,3650\r\n"
    ∷ "Heifers,Livestock::OtherCattle::Yard,tan_into_yard,2090,3650\r\n"
    ∷ "Heifers,Livestock::OtherCattle::Yard,nh3_nyard,68250000,100000000\r\n"
    ∷ "Heifers,Livestock::OtherCattle::Grazing,n_into_grazing,576000,876000\r\n"
    ∷ "Heifers,Livestock::OtherCattle::Grazing,tan_into_grazing,667200,876000\r\n"
    ∷ "Heifers,Livestock::OtherCattle::Grazing,nh3_ngrazing,320,10000\r\n"
    ∷ "Heifers,Livestock::OtherCattle::Grazing,n2_ngrazing,0,10000\r\n"
    ∷ "Heifers,Livestock::OtherCattle::Grazing,no_ngrazing,440,10000\r\n"
    ∷ "Heifers,Livestock::OtherCattle::Grazing,n2o_ngrazing,1600,10000\r\n"
    ∷ []

pub heifers-cut : cut_lines (bytes "Heifers") Cattle heifers ≡ each bytes heifers_lines
unfolding cut_lines cut_line numbers_of label_field has_comma whole_of width
heifers-cut = refl

-- a cut under every name there is, its number cut off
abbrev every_name : Cuts
every_name = record { cut_off = map cut_number texts; divisor = map (λ (t : String). 10000) texts }

abbrev every_line : List String
every_line =
    "P1,Livestock::FatteningPigs::Excretion,tan_excretion,0,10000\r\n"
    ∷ "P1,Livestock::FatteningPigs::Yard,n_into_yard,1,10000\r\n"
    ∷ "P1,Livestock::FatteningPigs::Yard,tan_into_yard,2,10000\r\n"
    ∷ "P1,Livestock::FatteningPigs::Yard,nh3_nyard,3,10000\r\n"
    ∷ "P1,Livestock::FatteningPigs::Grazing,n_into_grazing,4,10000\r\n"
    ∷ "P1,Livestock::FatteningPigs::Grazing,tan_into_grazing,5,10000\r\n"
    ∷ "P1,Livestock::FatteningPigs::Grazing,nh3_ngrazing,6,10000\r\n"
    ∷ "P1,Livestock::FatteningPigs::Grazing,n2_ngrazing,7,10000\r\n"
    ∷ "P1,Livestock::FatteningPigs::Grazing,no_ngrazing,8,10000\r\n"
    ∷ "P1,Livestock::FatteningPigs::Grazing,n2o_ngrazing,9,10000\r\n"
    ∷ "P1,Livestock::FatteningPigs::Housing,c_grazing,10,10000\r\n"
    ∷ "P1,Livestock::FatteningPigs::Housing,ef_nh3_nhousing:er_housing,11,10000\r\n"
    ∷ "P1,Livestock::FatteningPigs::Housing,ef_nh3_nhousing:c_free_factor_housing,12,10000\r\n"
    ∷ "P1,Livestock::FatteningPigs::Housing,ef_housing_indoor_before_air_scrubber:c_free_factor_housing,13,10000\r\n"
    ∷ "P1,Livestock::FatteningPigs::Housing,ef_housing_indoor_before_air_scrubber:red_housing_air,14,10000\r\n"
    ∷ "P1,Livestock::FatteningPigs::Housing,ef_housing_indoor,15,10000\r\n"
    ∷ "P1,Livestock::FatteningPigs::Housing,ef_housing_grazing:c_free_factor_housing,16,10000\r\n"
    ∷ "P1,Livestock::FatteningPigs::Housing,ef_nh3_nhousing:ef_housing_indoor,17,10000\r\n"
    ∷ "P1,Livestock::FatteningPigs::Housing,ef_nh3_nhousing:ef_housing_grazing,18,10000\r\n"
    ∷ "P1,Livestock::FatteningPigs::Housing,nh3_nhousing,19,10000\r\n"
    ∷ "P1,Livestock::FatteningPigs::Housing,tan_air_scrubber:tan_excretion,20,10000\r\n"
    ∷ "P1,Livestock::FatteningPigs::Housing,tan_air_scrubber:ef_housing_indoor_before_air_scrubber,21,10000\r\n"
    ∷ "P1,Livestock::FatteningPigs::NxOx,n2_nsolid,22,10000\r\n"
    ∷ "P1,Livestock::FatteningPigs::NxOx,no_nsolid,23,10000\r\n"
    ∷ "P1,Livestock::FatteningPigs::NxOx,n2o_nsolid,24,10000\r\n"
    ∷ "P1,Livestock::FatteningPigs::NxOx,n2_nliquid,25,10000\r\n"
    ∷ "P1,Livestock::FatteningPigs::NxOx,no_nliquid,26,10000\r\n"
    ∷ "P1,Livestock::FatteningPigs::NxOx,n2o_nliquid,27,10000\r\n"
    ∷ []

pub every-name-listed : cut_lines (bytes "P1") Pigs every_name ≡ each bytes every_line
unfolding cut_lines cut_line numbers_of label_field has_comma whole_of width
every-name-listed = refl

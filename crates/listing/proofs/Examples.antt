-- 01, The listing: a herd of each kind, byte by byte, from its grams: the pigs that 01 prints, the cattle of its row 1,
-- dairy cows (02, W9) and fallow deer; the totals of a farm of these four; and a figure below zero. Assumes nothing.
use Prim.Native.String.{String}
use mathlib.Core.Path.{◌≡◌, refl}
use mathlib.Core.List.{List, [], ◌∷◌, map}
use lib.IntN.{ℤ, pos, negsuc}
use lib.Text.{eqt}
use Rattle.base.specs.Pick.{pick}
use Rattle.base.specs.Text.{bytes}
use Rattle.decimal.specs.Writing.{width, whole_of}
use Rattle.kilogram_text.specs.Kilograms.{thousandths_of, sign, kilograms_of}
use Rattle.inputs.specs.declared.Kind.TheVariants.{Roughage, Cattle, Pigs, DairyCow}
use Rattle.outputs.specs.declared.Figures.{Figures}
use Rattle.outputs.specs.Names.{texts}
use Rattle.outputs.specs.Grams.{by_number, farm_total, totals_of}
use Rattle.line_parts.specs.Fields.{has_comma, label_field, each}
use Rattle.listing.specs.Listing.{line_of, herd_lines, totals_listing}

-- the grams under these names, and 0 under any other
abbrev named : List (String × ℤ) → String → ℤ
named [] t = pos 0
named (g ∷ gs) t = pick (eqt t g.0) g.1 (named gs t)

abbrev grammed : List (String × ℤ) → Figures
grammed gs = record { grams = map (named gs) texts }

-- ---- the herds

-- 01's ten pigs of 13 kg with 70 percent TAN, outdoors
abbrev pub pig_figures : Figures
pig_figures =
    grammed
    (
    ("n_excretion", pos 130000)
    ∷ ("tan_excretion", pos 91000)
    ∷ ("n_into_grazing", pos 130000)
    ∷ ("tan_into_grazing", pos 91000)
    ∷ ("nh3_ngrazing", pos 18200)
    ∷ ("no_ngrazing", pos 715)
    ∷ ("n2o_ngrazing", pos 2600)
    ∷ ("n_remain_grazing", pos 108485)
    ∷ ("tan_remain_grazing", pos 69485)
    ∷ [])

abbrev pub pig_lines : List String
pig_lines =
    "P1,Livestock::FatteningPigs::Excretion,n_excretion,130.000\r\n"
    ∷ "P1,Livestock::FatteningPigs::Excretion,tan_excretion,91.000\r\n"
    ∷ "P1,Livestock::FatteningPigs::Grazing,n_into_grazing,130.000\r\n"
    ∷ "P1,Livestock::FatteningPigs::Grazing,tan_into_grazing,91.000\r\n"
    ∷ "P1,Livestock::FatteningPigs::Grazing,nh3_ngrazing,18.200\r\n"
    ∷ "P1,Livestock::FatteningPigs::Grazing,n2_ngrazing,0.000\r\n"
    ∷ "P1,Livestock::FatteningPigs::Grazing,no_ngrazing,0.715\r\n"
    ∷ "P1,Livestock::FatteningPigs::Grazing,n2o_ngrazing,2.600\r\n"
    ∷ "P1,Livestock::FatteningPigs::Grazing,n_remain_grazing,108.485\r\n"
    ∷ "P1,Livestock::FatteningPigs::Grazing,tan_remain_grazing,69.485\r\n"
    ∷ "P1,Livestock::FatteningPigs::Housing,n_into_housing,0.000\r\n"
    ∷ "P1,Livestock::FatteningPigs::Housing,tan_into_housing,0.000\r\n"
    ∷ "P1,Livestock::FatteningPigs::Housing,nh3_nhousing,0.000\r\n"
    ∷ "P1,Livestock::FatteningPigs::Housing,n_outhousing_liquid,0.000\r\n"
    ∷ "P1,Livestock::FatteningPigs::Housing,tan_outhousing_liquid,0.000\r\n"
    ∷ "P1,Livestock::FatteningPigs::Housing,n_outhousing_solid,0.000\r\n"
    ∷ "P1,Livestock::FatteningPigs::Housing,tan_outhousing_solid,0.000\r\n"
    ∷ "P1,Livestock::FatteningPigs::NxOx,n2_nsolid,0.000\r\n"
    ∷ "P1,Livestock::FatteningPigs::NxOx,no_nsolid,0.000\r\n"
    ∷ "P1,Livestock::FatteningPigs::NxOx,n2o_nsolid,0.000\r\n"
    ∷ "P1,Livestock::FatteningPigs::NxOx,n2_nliquid,0.000\r\n"
    ∷ "P1,Livestock::FatteningPigs::NxOx,no_nliquid,0.000\r\n"
    ∷ "P1,Livestock::FatteningPigs::NxOx,n2o_nliquid,0.000\r\n"
    ∷ []

pub pig-listed : herd_lines (bytes "P1") Pigs pig_figures ≡ each bytes pig_lines
unfolding herd_lines line_of label_field has_comma kilograms_of sign thousandths_of whole_of width
pig-listed = refl

-- 01, row 1: ten cattle of 73 kg, whose yard partly supplies the roughage
abbrev pub cattle_figures : Figures
cattle_figures =
    grammed
    (
    ("n_excretion", pos 730000)
    ∷ ("tan_excretion", pos 438000)
    ∷ ("n_into_yard", pos 146000)
    ∷ ("tan_into_yard", pos 87600)
    ∷ ("nh3_nyard", pos 61320)
    ∷ ("n_outyard_liquid", pos 84680)
    ∷ ("tan_outyard_liquid", pos 26280)
    ∷ ("n_into_grazing", pos 160000)
    ∷ ("tan_into_grazing", pos 96000)
    ∷ ("nh3_ngrazing", pos 7968)
    ∷ ("no_ngrazing", pos 880)
    ∷ ("n2o_ngrazing", pos 3200)
    ∷ ("n_remain_grazing", pos 147952)
    ∷ ("tan_remain_grazing", pos 83952)
    ∷ ("n_into_housing", pos 424000)
    ∷ ("tan_into_housing", pos 254400)
    ∷ [])

abbrev pub cattle_lines : List String
cattle_lines =
    "\"C, partly\",Livestock::OtherCattle::Excretion,n_excretion,730.000\r\n"
    ∷ "\"C, partly\",Livestock::OtherCattle::Excretion,tan_excretion,438.000\r\n"
    ∷ "\"C, partly\",Livestock::OtherCattle::Yard,n_into_yard,146.000\r\n"
    ∷ "\"C, partly\",Livestock::OtherCattle::Yard,tan_into_yard,87.600\r\n"
    ∷ "\"C, partly\",Livestock::OtherCattle::Yard,nh3_nyard,61.320\r\n"
    ∷ "\"C, partly\",Livestock::OtherCattle::Yard,n_outyard_liquid,84.680\r\n"
    ∷ "\"C, partly\",Livestock::OtherCattle::Yard,tan_outyard_liquid,26.280\r\n"
    ∷ "\"C, partly\",Livestock::OtherCattle::Grazing,n_into_grazing,160.000\r\n"
    ∷ "\"C, partly\",Livestock::OtherCattle::Grazing,tan_into_grazing,96.000\r\n"
    ∷ "\"C, partly\",Livestock::OtherCattle::Grazing,nh3_ngrazing,7.968\r\n"
    ∷ "\"C, partly\",Livestock::OtherCattle::Grazing,n2_ngrazing,0.000\r\n"
    ∷ "\"C, partly\",Livestock::OtherCattle::Grazing,no_ngrazing,0.880\r\n"
    ∷ "\"C, partly\",Livestock::OtherCattle::Grazing,n2o_ngrazing,3.200\r\n"
    ∷ "\"C, partly\",Livestock::OtherCattle::Grazing,n_remain_grazing,147.952\r\n"
    ∷ "\"C, partly\",Livestock::OtherCattle::Grazing,tan_remain_grazing,83.952\r\n"
    ∷ "\"C, partly\",Livestock::OtherCattle::Housing,n_into_housing,424.000\r\n"
    ∷ "\"C, partly\",Livestock::OtherCattle::Housing,tan_into_housing,254.400\r\n"
    ∷ []

pub cattle-listed : herd_lines (bytes "C, partly") Cattle cattle_figures ≡ each bytes cattle_lines
unfolding herd_lines line_of label_field has_comma kilograms_of sign thousandths_of whole_of width
cattle-listed = refl

-- 02, W9: ten dairy cows of 112 kg, "in the cattle order"
abbrev pub dairy_figures : Figures
dairy_figures =
    grammed
    (
    ("n_excretion", pos 1120000)
    ∷ ("tan_excretion", pos 616000)
    ∷ ("n_into_yard", pos 426520)
    ∷ ("tan_into_yard", pos 234586)
    ∷ ("nh3_nyard", pos 164210)
    ∷ ("n_outyard_liquid", pos 262310)
    ∷ ("tan_outyard_liquid", pos 70376)
    ∷ ("n_into_grazing", pos 245479)
    ∷ ("tan_into_grazing", pos 135013)
    ∷ ("nh3_ngrazing", pos 11206)
    ∷ ("no_ngrazing", pos 1350)
    ∷ ("n2o_ngrazing", pos 4909)
    ∷ ("n_remain_grazing", pos 228014)
    ∷ ("tan_remain_grazing", pos 117548)
    ∷ ("n_into_housing", pos 448001)
    ∷ ("tan_into_housing", pos 246401)
    ∷ [])

abbrev pub dairy_lines : List String
dairy_lines =
    "Milk,Livestock::DairyCow::Excretion,n_excretion,1120.000\r\n"
    ∷ "Milk,Livestock::DairyCow::Excretion,tan_excretion,616.000\r\n"
    ∷ "Milk,Livestock::DairyCow::Yard,n_into_yard,426.520\r\n"
    ∷ "Milk,Livestock::DairyCow::Yard,tan_into_yard,234.586\r\n"
    ∷ "Milk,Livestock::DairyCow::Yard,nh3_nyard,164.210\r\n"
    ∷ "Milk,Livestock::DairyCow::Yard,n_outyard_liquid,262.310\r\n"
    ∷ "Milk,Livestock::DairyCow::Yard,tan_outyard_liquid,70.376\r\n"
    ∷ "Milk,Livestock::DairyCow::Grazing,n_into_grazing,245.479\r\n"
    ∷ "Milk,Livestock::DairyCow::Grazing,tan_into_grazing,135.013\r\n"
    ∷ "Milk,Livestock::DairyCow::Grazing,nh3_ngrazing,11.206\r\n"
    ∷ "Milk,Livestock::DairyCow::Grazing,n2_ngrazing,0.000\r\n"
    ∷ "Milk,Livestock::DairyCow::Grazing,no_ngrazing,1.350\r\n"
    ∷ "Milk,Livestock::DairyCow::Grazing,n2o_ngrazing,4.909\r\n"
    ∷ "Milk,Livestock::DairyCow::Grazing,n_remain_grazing,228.014\r\n"
    ∷ "Milk,Livestock::DairyCow::Grazing,tan_remain_grazing,117.548\r\n"
    ∷ "Milk,Livestock::DairyCow::Housing,n_into_housing,448.001\r\n"
    ∷ "Milk,Livestock::DairyCow::Housing,tan_into_housing,246.401\r\n"
    ∷ []

pub dairy_listed : herd_lines (bytes "Milk") DairyCow dairy_figures ≡ each bytes dairy_lines
unfolding herd_lines line_of label_field has_comma kilograms_of sign thousandths_of whole_of width
dairy_listed = refl

-- ten fallow deer by the standards, on pasture for 100 days of 6 hours
abbrev pub deer_figures : Figures
deer_figures =
    grammed
    (
    ("n_excretion", pos 200000)
    ∷ ("tan_excretion", pos 80000)
    ∷ ("n_into_grazing", pos 13698)
    ∷ ("tan_into_grazing", pos 5479)
    ∷ ("nh3_ngrazing", pos 684)
    ∷ ("no_ngrazing", pos 75)
    ∷ ("n2o_ngrazing", pos 136)
    ∷ ("n_remain_grazing", pos 12803)
    ∷ ("tan_remain_grazing", pos 4584)
    ∷ ("n_into_housing", pos 186302)
    ∷ ("tan_into_housing", pos 74521)
    ∷ ("nh3_nhousing", pos 21729)
    ∷ ("n_outhousing", pos 164573)
    ∷ ("tan_outhousing", pos 52792)
    ∷ [])

abbrev pub deer_lines : List String
deer_lines =
    "Deer,Livestock::RoughageConsuming::Excretion,n_excretion,200.000\r\n"
    ∷ "Deer,Livestock::RoughageConsuming::Excretion,tan_excretion,80.000\r\n"
    ∷ "Deer,Livestock::RoughageConsuming::Grazing,n_into_grazing,13.698\r\n"
    ∷ "Deer,Livestock::RoughageConsuming::Grazing,tan_into_grazing,5.479\r\n"
    ∷ "Deer,Livestock::RoughageConsuming::Grazing,nh3_ngrazing,0.684\r\n"
    ∷ "Deer,Livestock::RoughageConsuming::Grazing,n2_ngrazing,0.000\r\n"
    ∷ "Deer,Livestock::RoughageConsuming::Grazing,no_ngrazing,0.075\r\n"
    ∷ "Deer,Livestock::RoughageConsuming::Grazing,n2o_ngrazing,0.136\r\n"
    ∷ "Deer,Livestock::RoughageConsuming::Grazing,n_remain_grazing,12.803\r\n"
    ∷ "Deer,Livestock::RoughageConsuming::Grazing,tan_remain_grazing,4.584\r\n"
    ∷ "Deer,Livestock::RoughageConsuming::Housing,n_into_housing,186.302\r\n"
    ∷ "Deer,Livestock::RoughageConsuming::Housing,tan_into_housing,74.521\r\n"
    ∷ "Deer,Livestock::RoughageConsuming::Housing,nh3_nhousing,21.729\r\n"
    ∷ "Deer,Livestock::RoughageConsuming::Housing,n_outhousing,164.573\r\n"
    ∷ "Deer,Livestock::RoughageConsuming::Housing,tan_outhousing,52.792\r\n"
    ∷ []

pub deer-listed : herd_lines (bytes "Deer") Roughage deer_figures ≡ each bytes deer_lines
unfolding herd_lines line_of label_field has_comma kilograms_of sign thousandths_of whole_of width
deer-listed = refl

-- ---- the totals of the four

abbrev pub total_lines : List String
total_lines =
    ",Livestock,n_excretion,2180.000\r\n"
    ∷ ",Livestock,tan_excretion,1225.000\r\n"
    ∷ ",Livestock,n_into_housing,1058.303\r\n"
    ∷ ",Livestock,tan_into_housing,575.322\r\n"
    ∷ ",Livestock,n_into_yard,572.520\r\n"
    ∷ ",Livestock,tan_into_yard,322.186\r\n"
    ∷ ",Livestock,n_into_grazing,549.177\r\n"
    ∷ ",Livestock,tan_into_grazing,327.492\r\n"
    ∷ ",Livestock,nh3_nhousing,21.729\r\n"
    ∷ ",Livestock,nh3_nyard,225.530\r\n"
    ∷ ",Livestock,nh3_ngrazing,38.058\r\n"
    ∷ ",Livestock,nh3_nhousing_and_yard,247.259\r\n"
    ∷ ",Livestock,nh3_nlivestock,285.317\r\n"
    ∷ ",Livestock,n2_ngrazing,0.000\r\n"
    ∷ ",Livestock,no_ngrazing,3.020\r\n"
    ∷ ",Livestock,n2o_ngrazing,10.845\r\n"
    ∷ ",Livestock,n_remain_grazing,497.254\r\n"
    ∷ ",Livestock,tan_remain_grazing,275.569\r\n"
    ∷ []

pub totals-listed : totals_listing (totals_of (pig_figures ∷ cattle_figures ∷ dairy_figures ∷ deer_figures ∷ []))
    ≡ each bytes total_lines
unfolding totals_listing line_of label_field has_comma kilograms_of sign thousandths_of whole_of width totals_of
    by_number
    farm_total
totals-listed = refl

pub comma_and_minus : line_of (bytes "a,b") (bytes "Livestock") (bytes "tan_remain_grazing") (negsuc 5225)
    ≡ bytes "\"a,b\",Livestock,tan_remain_grazing,-5.226\r\n"
unfolding line_of label_field has_comma kilograms_of sign thousandths_of whole_of width
comma_and_minus = refl

-- 01, The listing, "Order", and 02, W1 and W9: the names that a herd of each kind lists, each under the section of its
-- row.
use Prim.Native.String.{String}
use Rattle.std.specs.Prelude.{List, [], ◌∷◌, ◌++◌}
use Rattle.inputs.specs.declared.Kind.{Kind}
use Rattle.inputs.specs.declared.Kind.TheVariants.{Roughage, Cattle, Pigs, DairyCow}

abbrev excretion : List String
excretion = "n_excretion" ∷ "tan_excretion" ∷ []

abbrev yard : List String
yard = "n_into_yard" ∷ "tan_into_yard" ∷ "nh3_nyard" ∷ "n_outyard_liquid" ∷ "tan_outyard_liquid" ∷ []

abbrev pub grazing : List String
grazing =
    "n_into_grazing"
    ∷ "tan_into_grazing"
    ∷ "nh3_ngrazing"
    ∷ "n2_ngrazing"
    ∷ "no_ngrazing"
    ∷ "n2o_ngrazing"
    ∷ "n_remain_grazing"
    ∷ "tan_remain_grazing"
    ∷ []

abbrev pub into_housing : List String
into_housing = "n_into_housing" ∷ "tan_into_housing" ∷ []

-- "and for roughage"
abbrev roughage_housing : List String
roughage_housing = "nh3_nhousing" ∷ "n_outhousing" ∷ "tan_outhousing" ∷ []

-- 02, W1: "nh3_nhousing, then n_ and tan_outhousing_liquid, n_ and tan_outhousing_solid"
abbrev pub liquid_out : List String
liquid_out = "n_outhousing_liquid" ∷ "tan_outhousing_liquid" ∷ []

abbrev pub solid_out : List String
solid_out = "n_outhousing_solid" ∷ "tan_outhousing_solid" ∷ []

abbrev pub pig_housing : List String
pig_housing = "nh3_nhousing" ∷ (liquid_out ++ solid_out)

-- "then under NxOx n2_, no_, n2o_nsolid and n2_, no_, n2o_nliquid"
abbrev pub solid_gases : List String
solid_gases = "n2_nsolid" ∷ "no_nsolid" ∷ "n2o_nsolid" ∷ []

abbrev pub liquid_gases : List String
liquid_gases = "n2_nliquid" ∷ "no_nliquid" ∷ "n2o_nliquid" ∷ []

abbrev outdoor_lines : List String
outdoor_lines = excretion ++ yard ++ grazing ++ into_housing

-- 02, W9: "the lines are listed in the cattle order"
abbrev pub lines_of : Kind → List String
lines_of Roughage = excretion ++ grazing ++ into_housing ++ roughage_housing
lines_of Cattle = outdoor_lines
lines_of Pigs = excretion ++ grazing ++ into_housing ++ pig_housing ++ solid_gases ++ liquid_gases
lines_of DairyCow = outdoor_lines

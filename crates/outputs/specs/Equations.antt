-- 2.1 once more, as it writes the totals: which are sums over the herds' modules, and how two are added up from others.
-- `totals` (specs/Names.antt) says the same as a table. proofs/Equations.antt shows these equations of every list of
-- figures. To be believed.
use Prim.Native.String.{String}
use Rattle.std.specs.Prelude.{◌≡◌, List, [], ◌∷◌, ◌+ℤ◌}
use Rattle.base.specs.Each.{Each}
use Rattle.cut_division.specs.Total.{signed_total}
use Rattle.outputs.specs.declared.Figures.{Figures}
use Rattle.outputs.specs.declared.Totals.{Totals}
use Rattle.outputs.specs.Grams.{figure, total}

-- "Sum(n_excretion, Livestock::OtherCattle::Excretion) P+ Sum(n_excretion, Livestock::DairyCow::Excretion) P+ ..": of
-- every herd the figure of the total's own name
abbrev pub sums : List String
sums =
    "n_excretion"
    ∷ "tan_excretion"
    ∷ "n_into_housing"
    ∷ "tan_into_housing"
    ∷ "n_into_yard"
    ∷ "tan_into_yard"
    ∷ "n_into_grazing"
    ∷ "tan_into_grazing"
    ∷ "nh3_nhousing"
    ∷ "nh3_nyard"
    ∷ "nh3_ngrazing"
    ∷ "n2_ngrazing"
    ∷ "no_ngrazing"
    ∷ "n2o_ngrazing"
    ∷ "n_remain_grazing"
    ∷ "tan_remain_grazing"
    ∷ []

-- these herds have these totals
pub record Adds (l : List Figures) (t : Totals) : Type 0 where
  pub summed : Each (λ name. total name t ≡ signed_total (figure name) l) sums
  -- "Out(nh3_nhousing) P+ Out(nh3_nyard)"
  pub housing_and_yard : total "nh3_nhousing_and_yard" t ≡ total "nh3_nhousing" t +ℤ total "nh3_nyard" t
  -- "Out(nh3_nhousing_and_yard) P+ Out(nh3_ngrazing)"
  pub livestock : total "nh3_nlivestock" t ≡ total "nh3_nhousing_and_yard" t +ℤ total "nh3_ngrazing" t

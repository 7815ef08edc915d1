-- 02, W7, "for every cut": all divisions that a herd's figures make, by the formulas alone, and the cuts that its
-- answer carries, each with what its formula divides. That these are the same is `every-division`. To be believed.
use Prim.Native.String.{String}
use Rattle.std.specs.Prelude.{List, [], ◌∷◌, ◌++◌, map}
use Rattle.amounts.specs.Collecting.{Division, CollectedLeft, collecting}
use Rattle.kinds.specs.declared.Inputs.{Inputs}
use Rattle.outputs.specs.Names.{figures}
use Rattle.herd.specs.Herd.{figures_in}
use Rattle.cuts.specs.declared.Cuts.{Cuts}
use Rattle.cuts.specs.Cuts.{divisor_of, names_made}
use Rattle.cuts.specs.Herd.{dividend_of}

-- the divisions on the way to figures, one figure after the other
abbrev on_the_way : List CollectedLeft → List Division
on_the_way [] = []
on_the_way (f ∷ fs) = f.divisions ++ on_the_way fs

abbrev pub divisions_made : Inputs → List Division
divisions_made i = on_the_way (figures collecting (figures_in collecting i))

-- a cut: its name, what is divided, and by what
pub record Named : Type 0 where
  pub name : String
  pub division : Division

-- as the answer carries it: the dividend that the herd's formula names, and the divisor in the answer
abbrev pub carried : Inputs → Cuts → String → Named
carried i c t = record { name = t; division = record { dividend = dividend_of t i; divisor = divisor_of t c } }

abbrev pub cuts_carried : Inputs → Cuts → List Named
cuts_carried i c = map (carried i c) (names_made c)

abbrev pub divisions_carried : Inputs → Cuts → List Division
divisions_carried i c = map (λ t. (carried i c t).division) (names_made c)

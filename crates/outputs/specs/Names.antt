-- The output names of a herd and of a farm, once (01, The listing; 001 has each under its section): a row a name, in
-- the order of their numbers. A name's number is the place of its row. In a definition a name is written as its text.
-- To be believed: the rows, and 2.1's totals with their addends.
use Rattle.std.specs.Prelude.{ℕ, suc, List, [], ◌∷◌, ◌++◌, map, get_or}
use Prim.Native.String.{String}
use lib.Text.{eqt}
use Rattle.base.specs.Pick.{pick}
use Rattle.amounts.specs.Arithmetic.{Arithmetic}
use Rattle.excretion.specs.Excretion.{ExcretionIn}
use Rattle.yard.specs.Yard.{YardIn}
use Rattle.pasture.specs.Pasture.{GrazingIn}
use Rattle.housing.specs.Housing.{HousingIn}
use Rattle.pig_house.specs.PigHouse.{PigHouseIn}
use Rattle.pig_house.specs.NxOx.{NxOxIn}
use Rattle.outputs.specs.Sections.{FiguresIn}

-- a name: its text, its section, and its figure in any arithmetic
pub record Row : Type 1 where
  pub text : String
  pub section : String
  pub figure : (A : Arithmetic) → FiguresIn A → A.Balance

-- a name within its section S: an amount, or what is left of one
pub record Field (S : Arithmetic → Type 0) : Type 1 where
  pub text : String
  pub figure : (A : Arithmetic) → S A → A.Balance

module _ {S : Arithmetic → Type 0} where
  abbrev amount : String → ((A : Arithmetic) → S A → A.Amount) → Field S
  amount t f = record { text = t; figure = λ A s. A.balance (f A s) }

  abbrev rest : String → ((A : Arithmetic) → S A → A.Balance) → Field S
  rest t f = record { text = t; figure = f }

  -- the rows of a section
  abbrev section : String → ((A : Arithmetic) → FiguresIn A → S A) → List (Field S) → List Row
  section title of fields =
      map (λ (x : Field S). record { text = x.text; section = title; figure = λ A f. x.figure A (of A f) }) fields

-- ---- the names, section by section

abbrev pub excretion : List (Field ExcretionIn)
excretion =
    amount "n_excretion" (λ A e. e.n_excretion)
    ∷ amount "tan_excretion" (λ A e. e.tan_excretion)
    ∷ []

abbrev pub yard : List (Field YardIn)
yard =
    amount "n_into_yard" (λ A y. y.n_into_yard)
    ∷ amount "tan_into_yard" (λ A y. y.tan_into_yard)
    ∷ amount "nh3_nyard" (λ A y. y.nh3_nyard)
    ∷ amount "n_outyard_liquid" (λ A y. y.n_outyard_liquid)
    ∷ amount "tan_outyard_liquid" (λ A y. y.tan_outyard_liquid)
    ∷ []

abbrev pub grazing : List (Field GrazingIn)
grazing =
    amount "n_into_grazing" (λ A g. g.n_into_grazing)
    ∷ amount "tan_into_grazing" (λ A g. g.tan_into_grazing)
    ∷ amount "nh3_ngrazing" (λ A g. g.nh3_ngrazing)
    ∷ amount "n2_ngrazing" (λ A g. g.n2_ngrazing)
    ∷ amount "no_ngrazing" (λ A g. g.no_ngrazing)
    ∷ amount "n2o_ngrazing" (λ A g. g.n2o_ngrazing)
    ∷ amount "n_remain_grazing" (λ A g. g.n_remain_grazing)
    ∷ rest "tan_remain_grazing" (λ A g. g.tan_remain_grazing)
    ∷ []

abbrev pub housing : List (Field HousingIn)
housing =
    amount "n_into_housing" (λ A h. h.n_into_housing)
    ∷ amount "tan_into_housing" (λ A h. h.tan_into_housing)
    ∷ amount "nh3_nhousing" (λ A h. h.nh3_nhousing)
    ∷ amount "n_outhousing" (λ A h. h.n_outhousing)
    ∷ amount "tan_outhousing" (λ A h. h.tan_outhousing)
    ∷ []

-- 2.51, of a pig house alone
abbrev pub pig_house : List (Field PigHouseIn)
pig_house =
    amount "tan_air_scrubber" (λ A h. h.tan_air_scrubber)
    ∷ amount "n_outhousing_liquid" (λ A h. h.n_outhousing_liquid)
    ∷ amount "tan_outhousing_liquid" (λ A h. h.tan_outhousing_liquid)
    ∷ amount "n_outhousing_solid" (λ A h. h.n_outhousing_solid)
    ∷ amount "tan_outhousing_solid" (λ A h. h.tan_outhousing_solid)
    ∷ []

abbrev pub nx_ox : List (Field NxOxIn)
nx_ox =
    amount "n2_nsolid" (λ A x. x.n2_nsolid)
    ∷ amount "no_nsolid" (λ A x. x.no_nsolid)
    ∷ amount "n2o_nsolid" (λ A x. x.n2o_nsolid)
    ∷ amount "n2_nliquid" (λ A x. x.n2_nliquid)
    ∷ amount "no_nliquid" (λ A x. x.no_nliquid)
    ∷ amount "n2o_nliquid" (λ A x. x.n2o_nliquid)
    ∷ []

abbrev pub rows : List Row
rows =
    section "Excretion" (λ A f. f.excretion) excretion
    ++ section "Yard" (λ A f. f.yard) yard
    ++ section "Grazing" (λ A f. f.grazing) grazing
    ++ section "Housing" (λ A f. f.housing) housing
    ++ section "Housing" (λ A f. f.pig_house) pig_house
    ++ section "NxOx" (λ A f. f.nx_ox) nx_ox

-- ---- by number

-- a herd's figures in the order of their numbers
abbrev pub figures : (A : Arithmetic) → FiguresIn A → List A.Balance
figures A f = map (λ (r : Row). r.figure A f) rows

abbrev pub texts : List String
texts = map (λ (r : Row). r.text) rows

-- where a text stands in a list of texts; past them all where it does not
abbrev pub place : String → List String → ℕ
place t [] = 0
place t (u ∷ us) = pick (eqt t u) 0 (suc (place t us))

-- a name's number
abbrev pub number : String → ℕ
number t = place t texts

-- the section that a name stands in
abbrev pub section_of : String → String
section_of t = get_or (map (λ (r : Row). r.section) rows) (number t) ""

-- ---- the totals (2.1): each the sum of its addends, over all herds; in the order of 01, The listing

pub record Total : Type 0 where
  pub text : String
  pub addends : List String

infix 70 ◌adds◌
abbrev ◌adds◌ : String → List String → Total
t adds ns = record { text = t; addends = ns }

abbrev alone : String → Total
alone t = t adds (t ∷ [])

abbrev pub totals : List Total
totals =
    alone "n_excretion"
    ∷ alone "tan_excretion"
    ∷ alone "n_into_housing"
    ∷ alone "tan_into_housing"
    ∷ alone "n_into_yard"
    ∷ alone "tan_into_yard"
    ∷ alone "n_into_grazing"
    ∷ alone "tan_into_grazing"
    ∷ alone "nh3_nhousing"
    ∷ alone "nh3_nyard"
    ∷ alone "nh3_ngrazing"
    ∷ "nh3_nhousing_and_yard" adds ("nh3_nhousing" ∷ "nh3_nyard" ∷ [])
    ∷ "nh3_nlivestock" adds ("nh3_nhousing" ∷ "nh3_nyard" ∷ "nh3_ngrazing" ∷ [])
    ∷ alone "n2_ngrazing"
    ∷ alone "no_ngrazing"
    ∷ alone "n2o_ngrazing"
    ∷ alone "n_remain_grazing"
    ∷ alone "tan_remain_grazing"
    ∷ []

-- the numbers of each total's addends
abbrev pub addends : List (List ℕ)
addends = map (λ (t : Total). map number t.addends) totals

abbrev pub total_texts : List String
total_texts = map (λ (t : Total). t.text) totals

-- a total's number
abbrev pub total_number : String → ℕ
total_number t = place t total_texts

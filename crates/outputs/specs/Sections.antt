-- A herd's figures as the sections of 001 give them, over any arithmetic, with the factors that they are made of; and
-- how the code's struct hands them on. To be believed: a figure is a field of its section, under its name in 001.
use Rattle.amounts.specs.Arithmetic.{Arithmetic}
use Rattle.amounts.specs.Dividing.{dividing}
use Rattle.excretion.specs.Excretion.{ExcretionIn, handed_excretion}
use Rattle.yard.specs.Yard.{YardIn, handed_yard}
use Rattle.pasture.specs.Pasture.{GrazingIn, handed_grazing}
use Rattle.housing.specs.Housing.{HousingIn, FactorsIn, handed_housing}
use Rattle.pig_house.specs.PigHouse.{PigHouseIn, PigFactorsIn, ScrubbedIn, handed_pig_house, handed_scrubbed}
use Rattle.pig_house.specs.NxOx.{NxOxIn, handed_nx_ox}
use Rattle.outputs.specs.declared.Sections.{Sections}

pub record FiguresIn (A : Arithmetic) : Type 0 where
  pub excretion : ExcretionIn A
  pub yard : YardIn A
  pub grazing : GrazingIn A
  pub housing : HousingIn A
  pub pig_house : PigHouseIn A
  pub nx_ox : NxOxIn A
  pub factors : FactorsIn A
  pub pig_factors : PigFactorsIn A
  pub scrubbed : ScrubbedIn A

-- the code's sections
abbrev pub handed_sections : FiguresIn dividing → Sections
handed_sections f =
    record {
      excretion = handed_excretion f.excretion;
      yard = handed_yard f.yard;
      grazing = handed_grazing f.grazing;
      housing = handed_housing f.factors f.housing;
      pig_house = handed_pig_house f.pig_factors (handed_scrubbed f.scrubbed) f.pig_house;
      nx_ox = handed_nx_ox f.nx_ox;
    }

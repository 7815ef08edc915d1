-- A herd's figures, kind by kind: excretion, yard, pasture and housing. Once over any arithmetic, then on whole grams,
-- and as the code hands them on. What goes into the housing is found here, from the other parts: "Into housing is what
-- remains." (01, Steps and cuts.)
use Rattle.amounts.specs.Arithmetic.{Arithmetic, cutting}
use Rattle.amounts.specs.Dividing.{dividing, uncut, worth}
use Rattle.kinds.specs.declared.Outdoor.{Outdoor}
use Rattle.kinds.specs.declared.Roughage.{Roughage}
use Rattle.kinds.specs.declared.Cattle.{Cattle}
use Rattle.kinds.specs.declared.Pigs.{Pigs}
use Rattle.kinds.specs.declared.Inputs.{Inputs}
use Rattle.kinds.specs.declared.Inputs.TheVariants as kinds
use Rattle.rates.specs.declared.Rates.{Rates}
use Rattle.rates.specs.Rates.{cattle_rates}
use Rattle.excretion.specs.declared.Excretion.{Excretion}
use Rattle.excretion.specs.Excretion.{ExcretionIn, excreted, n_excretion_animal}
use Rattle.excretion.specs.Excretion.{roughage_fraction, cattle_fraction}
use Rattle.yard.specs.declared.Yard.{Yard}
use Rattle.yard.specs.Yard.{YardIn, on_yard, no_yard}
use Rattle.pasture.specs.declared.Grazing.{Grazing}
use Rattle.pasture.specs.Pasture.{GrazingIn, outdoor_grazing, roughage_grazing, pigs_grazing}
use Rattle.housing.specs.declared.Housing.{Housing}
use Rattle.housing.specs.Housing.{HousingIn, FactorsIn, in_housing, through_door, factors, no_factors}
use Rattle.pig_house.specs.PigHouse.{pig_housing, pig_house, pig_factors, kept_back, no_pig_house, no_pig_factors}
use Rattle.pig_house.specs.PigHouse.{no_scrubbed}
use Rattle.pig_house.specs.PigHouse.{handed_scrubbed, handed_pig_house}
use Rattle.pig_house.specs.NxOx.{nx_ox, no_nx_ox, handed_nx_ox}
use Rattle.outputs.specs.declared.Figures.{Figures}
use Rattle.outputs.specs.declared.Sections.{Sections}
use Rattle.outputs.specs.Sections.{FiguresIn, handed_sections}
use Rattle.outputs.specs.Grams.{grams_of}

module _ (A : Arithmetic) where
  open A use {Amount, ◌⊖◌}

  infixl 6 ◌⊖◌
  -- a kind whose house is none of the pigs'
  abbrev pub without_pig_house : ExcretionIn A → YardIn A → GrazingIn A → HousingIn A → FactorsIn A → FiguresIn A
  without_pig_house e y g h f =
      record {
        excretion = e;
        yard = y;
        grazing = g;
        housing = h;
        pig_house = no_pig_house A;
        nx_ox = no_nx_ox A;
        factors = f;
        pig_factors = no_pig_factors A;
        scrubbed = no_scrubbed A;
      }

  -- 2.84 to 2.88; into the housing (2.85) goes what the pasture leaves
  abbrev pub roughage_from : Roughage → ExcretionIn A → GrazingIn A → FiguresIn A
  roughage_from r e g =
      without_pig_house e (no_yard A) g
      (in_housing A r (e.n_excretion ⊖ g.n_into_grazing) (e.tan_excretion ⊖ g.tan_into_grazing))
      (factors A r)

  abbrev pub roughage_on : Roughage → ExcretionIn A → FiguresIn A
  roughage_on r e =
      roughage_from r e (roughage_grazing A r e.n_excretion e.tan_excretion)

  abbrev pub of_roughage : Roughage → FiguresIn A
  of_roughage r =
      roughage_on r
      (excreted A r.animals (n_excretion_animal r.animalcategory r.inp_n_excretion)
      (roughage_fraction r))

  -- a kind with the module `Outdoor`: 2.33 to 2.35, or 2.18 to 2.20, at its rates; into the housing goes what yard and
  -- pasture leave (2.23)
  abbrev pub outdoor_from : ExcretionIn A → YardIn A → GrazingIn A → FiguresIn A
  outdoor_from e y g =
      without_pig_house e y g
      (through_door A
      (e.n_excretion ⊖ y.n_into_yard ⊖ g.n_into_grazing)
      (e.tan_excretion ⊖ y.tan_into_yard ⊖ g.tan_into_grazing))
      (no_factors A)

  abbrev pub outdoor_on : Rates → Outdoor → ExcretionIn A → FiguresIn A
  outdoor_on r o e =
      outdoor_from e
      (on_yard A o e.n_excretion e.tan_excretion)
      (outdoor_grazing A r o e.n_excretion e.tan_excretion)

  -- 2.22 or 2.2
  abbrev pub of_cattle : Cattle → FiguresIn A
  of_cattle c =
      outdoor_on (cattle_rates c.kind) c.outdoor
      (excreted A c.animals c.inp_n_excretion (cattle_fraction c))

  -- 2.50, 2.61, 2.62; into the housing (2.51) goes what the pasture leaves
  abbrev pub pigs_from : Pigs → ExcretionIn A → GrazingIn A → Amount → Amount → FiguresIn A
  pigs_from p e g n tan =
      record {
        excretion = e;
        yard = no_yard A;
        grazing = g;
        housing = pig_housing A p e.tan_excretion n tan;
        pig_house = pig_house A p e.tan_excretion n tan;
        nx_ox = nx_ox A p.housing_type n;
        factors = no_factors A;
        pig_factors = pig_factors A p;
        scrubbed = kept_back A p e.tan_excretion;
      }

  abbrev pub pigs_through : Pigs → ExcretionIn A → GrazingIn A → FiguresIn A
  pigs_through p e g =
      pigs_from p e g (e.n_excretion ⊖ g.n_into_grazing) (e.tan_excretion ⊖ g.tan_into_grazing)

  abbrev pub pigs_on : Pigs → ExcretionIn A → FiguresIn A
  pigs_on p e = pigs_through p e (pigs_grazing A p.housing_type e.n_excretion e.tan_excretion)

  abbrev pub of_pigs : Pigs → FiguresIn A
  of_pigs p = pigs_on p (excreted A p.animals p.inp_n_excretion p.tan_fraction)

  abbrev pub figures_in : Inputs → FiguresIn A
  figures_in (kinds.Roughage r) = of_roughage r
  figures_in (kinds.Cattle c) = of_cattle c
  figures_in (kinds.Pigs p) = of_pigs p

-- a herd's figures in whole grams, by number
unfoldable pub figures_of : Inputs → Figures
figures_of i = record { grams = grams_of (figures_in cutting i) }

-- ---- as the code hands them on

-- the sections of a kind whose house is none of the pigs'
abbrev pub of_grazer_sections : Excretion → Yard → Grazing → Housing → Sections
of_grazer_sections e y g h =
    record {
      excretion = e;
      yard = y;
      grazing = g;
      housing = h;
      pig_house =
          handed_pig_house (no_pig_factors dividing) (handed_scrubbed (no_scrubbed dividing)) (no_pig_house dividing);
      nx_ox = handed_nx_ox (no_nx_ox dividing);
    }

-- of pigs: what comes onto their pasture is all or nothing, a whole number and no cut
abbrev pub pigs_handed : Pigs → ExcretionIn dividing → FiguresIn dividing
pigs_handed p e =
    pigs_through dividing p e
    (pigs_grazing dividing p.housing_type (uncut (worth e.n_excretion)) (uncut (worth e.tan_excretion)))

unfoldable pub sections_of : Inputs → Sections
sections_of (kinds.Roughage r) = handed_sections (of_roughage dividing r)
sections_of (kinds.Cattle c) = handed_sections (of_cattle dividing c)
sections_of (kinds.Pigs p) = handed_sections (pigs_handed p (of_pigs dividing p).excretion)

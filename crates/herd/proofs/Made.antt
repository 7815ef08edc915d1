-- Where the figures of sound inputs start: at a modest excretion, of whatever kind the herd is. Assumes nothing.
use Rattle.amounts.specs.Arithmetic.{cutting}
use Rattle.amounts.specs.Bounds.{WithinMostN}
use Rattle.kinds.specs.declared.Outdoor.{Outdoor}
use Rattle.kinds.specs.declared.Roughage.{Roughage}
use Rattle.kinds.specs.declared.Pigs.{Pigs}
use Rattle.kinds.specs.declared.Inputs.{Inputs}
use Rattle.kinds.specs.Sound.{SoundOutdoor, SoundRoughage, SoundPigs, Sound, roughage, cattle, pigs}
use Rattle.rates.specs.declared.Rates.{Rates}
use Rattle.rates.specs.Bounds.{ModestRates}
use Rattle.rates.proofs.Modest.{cattle-rates-modest}
use Rattle.excretion.specs.Excretion.{ExcretionIn, n_excretion_animal, roughage_fraction, cattle_fraction}
use Rattle.excretion.proofs.Modest.{excreted-modest, roughage-grams-le, roughage-fraction-le, cattle-fraction-le}
use Rattle.outputs.specs.Sections.{FiguresIn}
use Rattle.herd.specs.Herd.{roughage_on, of_roughage, outdoor_on, pigs_on, of_pigs, figures_in}

-- figures of a herd of some kind that excretes a modest amount
pub data Made : FiguresIn cutting → Type 0 where
  of-roughage : (r : Roughage) (e : ExcretionIn cutting) → SoundRoughage r
      → WithinMostN e.n_excretion e.tan_excretion → Made (roughage_on cutting r e)
  of-outdoor : (r : Rates) (o : Outdoor) (e : ExcretionIn cutting) → ModestRates r → SoundOutdoor o
      → WithinMostN e.n_excretion e.tan_excretion
      → Made (outdoor_on cutting r o e)
  of-pigs : (p : Pigs) (e : ExcretionIn cutting) → SoundPigs p → WithinMostN e.n_excretion e.tan_excretion
      → Made (pigs_on cutting p e)

module _ (r : Roughage) (s : SoundRoughage r) where
  pub roughage-starts : let e = (of_roughage cutting r).excretion in WithinMostN e.n_excretion e.tan_excretion
  roughage-starts =
      excreted-modest r.animals (n_excretion_animal r.animalcategory r.inp_n_excretion)
      (roughage_fraction r) s.animals (roughage-grams-le r s) (roughage-fraction-le r s)

module _ (p : Pigs) (s : SoundPigs p) where
  pub pigs-start : let e = (of_pigs cutting p).excretion in WithinMostN e.n_excretion e.tan_excretion
  pigs-start =
      excreted-modest p.animals p.inp_n_excretion p.tan_fraction s.animals s.grams s.fraction

pub made : {i : Inputs} → Sound i → Made (figures_in cutting i)
made (roughage {r} s) = of-roughage r _ s (roughage-starts r s)
made (cattle {c} s) =
    of-outdoor _ c.outdoor _ (cattle-rates-modest c.kind) s.outdoor
    (excreted-modest c.animals c.inp_n_excretion (cattle_fraction c) s.animals s.grams
    (cattle-fraction-le c s))
made (pigs {p} s) =
    of-pigs p _ s (pigs-start p s)

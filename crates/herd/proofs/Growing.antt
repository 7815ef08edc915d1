-- 02, W14, kind by kind: with no fewer animals and no fewer grams of N a head a herd emits no less ammonia from yard,
-- pasture and housing. Each section's law is taken once (proofs/Growing of `excretion`, `yard`, `pasture`, `housing`,
-- `pig_house`).
-- Assumes nothing.
use Prim.Native.Nat.{ℕ, ◌≤◌}
use native.Mathlib.Nat.{le_refl}
use Rattle.amounts.specs.Arithmetic.{cutting}
use Rattle.kinds.specs.declared.Entered.{Entered}
use Rattle.kinds.specs.declared.Outdoor.{Outdoor}
use Rattle.kinds.specs.declared.Roughage.{Roughage}
use Rattle.kinds.specs.declared.Cattle.{Cattle}
use Rattle.kinds.specs.declared.Pigs.{Pigs}
use Rattle.kinds.specs.Sound.{SoundRoughage}
use Rattle.kinds.proofs.Grown.{grown_roughage, grown_cattle, grown_pigs}
use Rattle.rates.specs.declared.Rates.{Rates}
use Rattle.rates.specs.Rates.{cattle_rates}
use Rattle.excretion.specs.Excretion.{ExcretionIn, n_excretion_animal, roughage_fraction, cattle_fraction}
use Rattle.excretion.proofs.Growing.{NoLessExcreted, excretion-grows}
use Rattle.yard.proofs.Growing.{yard-grows}
use Rattle.pasture.proofs.Growing.{
  outdoor-pasture-grows,
  roughage-pasture-grows,
  roughage-rest-grows,
  pigs-pasture-grows,
  pigs-rest-grows,
}
use Rattle.housing.proofs.Growing.{housing-grows}
use Rattle.pig_house.proofs.Growing.{pig_house-grows}
use Rattle.outputs.specs.Sections.{FiguresIn}
use Rattle.herd.specs.Herd.{roughage_on, outdoor_on, pigs_on, of_roughage, of_cattle, of_pigs}

-- no less ammonia, source by source
pub record NoLessEmitted (f g : FiguresIn cutting) : Type 0 where
  pub yard : f.yard.nh3_nyard ≤ g.yard.nh3_nyard
  pub pasture : f.grazing.nh3_ngrazing ≤ g.grazing.nh3_ngrazing
  pub housing : f.housing.nh3_nhousing ≤ g.housing.nh3_nhousing

-- ---- of what is excreted

module _ (e more : ExcretionIn cutting) (h : NoLessExcreted e more) where
  abbrev n : ℕ
  n = e.n_excretion

  abbrev tan : ℕ
  tan = e.tan_excretion

  abbrev more_n : ℕ
  more_n = more.n_excretion

  abbrev more_tan : ℕ
  more_tan = more.tan_excretion

  roughage_emits : (r : Roughage) (animals : ℕ) (entered : Entered) → SoundRoughage r
      → NoLessEmitted (roughage_on cutting r e) (roughage_on cutting (grown_roughage animals entered r) more)
  roughage_emits r animals entered s =
      record {
        yard = le_refl 0;
        pasture = roughage-pasture-grows n more_n tan more_tan h.n h.tan r animals entered;
        housing =
            housing-grows _ _ _ _ (roughage-rest-grows n more_n h.n r animals entered s)
            (roughage-rest-grows tan more_tan h.tan r animals entered s) r animals entered;
      }

  -- behind a yard what goes into the housing has two cuts, and may fall by a gram (crate `growing_theorems`,
  -- proofs/Examples); 01 leaves the ammonia of that housing out
  outdoor_emits : (r : Rates) (o : Outdoor) → NoLessEmitted (outdoor_on cutting r o e) (outdoor_on cutting r o more)
  outdoor_emits r o =
      record {
        yard = yard-grows o n more_n tan more_tan h.n h.tan;
        pasture = outdoor-pasture-grows n more_n tan more_tan h.n h.tan r o;
        housing = le_refl 0;
      }

  pigs_emit : (p : Pigs) (animals grams : ℕ)
      → NoLessEmitted (pigs_on cutting p e) (pigs_on cutting (grown_pigs animals grams p) more)
  pigs_emit p animals grams =
      record {
        yard = le_refl 0;
        pasture = pigs-pasture-grows n more_n tan more_tan h.n h.tan p.housing_type;
        housing =
            pig_house-grows tan more_tan n more_n _ _ (pigs-rest-grows tan more_tan h.tan p.housing_type) p animals
            grams;
      }

-- ---- of the animals, and the grams of a head

module _ (animals : ℕ) where
  pub roughage-grows : (r : Roughage) (entered : Entered) → SoundRoughage r → r.animals ≤ animals
      → n_excretion_animal r.animalcategory r.inp_n_excretion
      ≤ n_excretion_animal r.animalcategory entered
      → NoLessEmitted (of_roughage cutting r) (of_roughage cutting (grown_roughage animals entered r))
  roughage-grows r entered s ha hg =
      roughage_emits _ _
      (excretion-grows r.animals animals _ _ (roughage_fraction r) ha hg) r animals entered s

  pub cattle-grows : (c : Cattle) (grams : ℕ) → c.animals ≤ animals → c.inp_n_excretion ≤ grams
      → NoLessEmitted (of_cattle cutting c) (of_cattle cutting (grown_cattle animals grams c))
  cattle-grows c grams ha hg =
      outdoor_emits _ _ (excretion-grows c.animals animals c.inp_n_excretion grams (cattle_fraction c) ha hg)
      (cattle_rates c.kind) c.outdoor

  pub pigs_grow : (p : Pigs) (grams : ℕ) → p.animals ≤ animals → p.inp_n_excretion ≤ grams
      → NoLessEmitted (of_pigs cutting p) (of_pigs cutting (grown_pigs animals grams p))
  pigs_grow p grams ha hg =
      pigs_emit _ _ (excretion-grows p.animals animals p.inp_n_excretion grams p.tan_fraction ha hg)
      p animals grams

-- The formulas on the arithmetic that tells of divisions give a herd's figures: so do the sections that the code hands
-- on. Assumes nothing.
use Prim.Native.Nat.{ℕ, zero, suc, ◌-◌}
use mathlib.Core.Path.{◌≡◌, refl, ap, subst, sym, ◌∙◌}
use mathlib.Core.List.{List}
use native.Mathlib.Omega.{arith}
use lib.IntN.{ℤ}
use Rattle.amounts.specs.Arithmetic.{cutting}
use Rattle.amounts.specs.Dividing.{Divided, worth, dividing}
use Rattle.kinds.specs.declared.Inputs.{Inputs}
use Rattle.kinds.specs.declared.Inputs.TheVariants as kinds
use Rattle.kinds.specs.Sound.{Sound}
use Rattle.pasture.proofs.Into.{pigs-undivided}
use Rattle.housing.proofs.InHousing.{grown-whole}
use Rattle.pig_house.specs.Parameters.{share_liquid}
use Rattle.pig_house.specs.PigHouse.{all_or_nothing}
use Rattle.pig_house.proofs.Through.{kept_whole}
use Rattle.outputs.specs.declared.Figures.{Figures}
use Rattle.outputs.specs.declared.Sections.{Sections}
use Rattle.outputs.specs.Grams.{grams_in, grams_of, GramsTo, figure_most}
use Rattle.outputs.proofs.Adding.{widen}
use Rattle.herd.specs.Herd.{figures_in, figures_of, sections_of}
use Rattle.herd.proofs.Bounds.{most, figures-to}

-- all or nothing is the same on either arithmetic
shared-whole : (share : ℕ) (d : Divided)
    → worth (all_or_nothing dividing share d) ≡ all_or_nothing cutting share (worth d)
shared-whole zero d = refl
shared-whole (suc share) d = refl

pub sections_agree : (i : Inputs) → grams_in (sections_of i) ≡ grams_of (figures_in cutting i)
unfolding sections_of
sections_agree (kinds.Roughage r) = rw (grown-whole r.grazing_days r.grazing_hours) refl
sections_agree (kinds.Cattle c) = refl
sections_agree (kinds.Pigs p) =
    rw (
      pigs-undivided p.housing_type _,
      pigs-undivided p.housing_type _,
      kept_whole p.air_scrubber _,
      shared-whole (share_liquid p.housing_type) _,
      shared-whole (share_liquid p.housing_type) _,
      shared-whole (share_liquid p.housing_type) _,
      shared-whole (1 - share_liquid p.housing_type) _,
    ) refl

-- the code's steps: of any kind
module _ (i j : Inputs) (s : Sections) (es : s ≡ sections_of j) (k : i ≡ j) where
  is-herd : grams_in s ≡ (figures_of i).grams
  unfolding figures_of
  is-herd = rw (es, k) (sections_agree j)

  pub sections_small : Sound i → GramsTo figure_most (grams_in s)
  sections_small h =
      subst (λ (g : List ℤ). GramsTo figure_most g) (sym is-herd)
      (widen most figure_most (figures-to i h) (omega arith))

  pub figures-are : (f : Figures) → f.grams ≡ grams_in s → f ≡ figures_of i
  figures-are f q = ap (λ (g : List ℤ). record { grams = g }) (q ∙ is-herd)

pub ruleset kind_steps = (sections_small, figures-are)

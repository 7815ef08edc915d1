-- The figures of an accepted herd and the totals of an accepted farm are whole numbers that a double has without loss.
-- Assumes nothing.
use Prim.Native.Nat.{◌*◌}
use mathlib.Core.Path.{◌≡◌}
use mathlib.Core.List.{List, [], map}
use native.Mathlib.Nat.{min-le_left}
use native.Mathlib.Omega.{arith}
use lib.ListN.{length, length-take, length-map}
use Rattle.base.specs.Each.{Each, none, more}
use Rattle.farm.specs.declared.Herd.{Herd}
use Rattle.farm.specs.declared.Farm.{Farm}
use Rattle.farm.specs.Answers.{Accepted}
use Rattle.checks.specs.Checks.{check_herd, check_farm, herds_of}
use Rattle.checks.proofs.Accepts.{farm-count, farm-each}
use Rattle.kinds.specs.declared.Inputs.{Inputs}
use Rattle.kinds.specs.Sound.{Sound}
use Rattle.typed_inputs.specs.Typed.{typed_of}
use Rattle.typed_inputs.proofs.Sound.{typed_sound}
use Rattle.outputs.specs.declared.Figures.{Figures}
use Rattle.outputs.specs.Grams.{GramsTo, totals_of}
use Rattle.outputs.proofs.Adding.{widen}
use Rattle.kilograms.specs.Kilograms.{exact_most}
use Rattle.kilograms.proofs.Small.{most_addends, totals-small}
use Rattle.herd.specs.Herd.{figures_of}
use Rattle.herd.proofs.Bounds.{most, figures-to}
use Rattle.model.specs.Answers.{herd_figures}

pub figures-exact : (i : Inputs) → Sound i → GramsTo exact_most (figures_of i).grams
figures-exact i s = widen most exact_most (figures-to i s) (omega arith)

herds-small : {l : List Herd} → Each (λ h. check_herd h ≡ Accepted) l
    → Each (λ (f : Figures). GramsTo most f.grams) (map herd_figures l)
herds-small none = none
herds-small (more {a = h} p ps) = more (figures-to (typed_of h) (typed_sound h p)) (herds-small ps)

pub totals-exact : (f : Farm) → check_farm f ≡ Accepted
    → GramsTo exact_most (totals_of (map herd_figures (herds_of f))).grams
totals-exact f accepted =
    let l = map herd_figures (herds_of f) in
    widen (most_addends * (length l * most)) exact_most (totals-small l most (herds-small (farm-each f accepted)))
    (omega (
      arith,
      length-map (herds_of f) herd_figures,
      length-take f.count f.herds,
      min-le_left f.count (length f.herds),
      farm-count f accepted,
    ))

-- and those of no herds, which are 0
pub no-totals-small : GramsTo 0 (totals_of []).grams
no-totals-small = totals-small [] 0 none

pub no-totals-exact : GramsTo exact_most (totals_of []).grams
no-totals-exact = widen 0 exact_most no-totals-small (omega arith)

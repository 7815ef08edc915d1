-- 02, W7: "Two advisers added the yard and pasture fractions by hand and were one gram off." In the answer of an
-- accepted cattle herd the exact share of the yard, and of the pasture, is the figure and what was cut off over the
-- divisor; that yard, pasture and housing are together what is excreted is `kept` (crate `model`). And the quotients of
-- a roughage herd's factors are the factors of its housing. Assumes nothing.
use mathlib.Core.Path.{◌≡◌, refl}
use Rattle.cut_division.specs.Frac.{Same}
use Rattle.amounts.specs.Arithmetic.{cutting}
use Rattle.kinds.specs.declared.Roughage.{Roughage}
use Rattle.kinds.specs.declared.Cattle.{Cattle}
use Rattle.kinds.specs.declared.Inputs.TheVariants as kinds
use Rattle.farm.specs.declared.Herd.{Herd}
use Rattle.farm.specs.Answers.{Accepted}
use Rattle.checks.specs.Checks.{check_herd}
use Rattle.typed_inputs.specs.Typed.{typed_of}
use Rattle.housing.specs.Housing.{c_grazing, with_rate, uncapped}
use Rattle.housing.proofs.InHousing.{grown-whole}
use Rattle.outputs.specs.Grams.{figure}
use Rattle.cuts.specs.Cuts.{cut_off}
use Rattle.cuts.specs.Herd.{quotient_under}
use Rattle.model.specs.Answers.{herd_answer}
use Rattle.nearness_theorems.specs.Exact.{exact_figure}
use Rattle.nearness_theorems.proofs.CutOff.{and_over, yard-exactly, pasture-exactly}

module _ (h : Herd) (accepted : check_herd h ≡ Accepted) (c : Cattle) (is-cattle : typed_of h ≡ kinds.Cattle c) where
  pub answered-yard-exactly : Same (exact_figure "n_into_yard" (typed_of h))
      (and_over (figure "n_into_yard" (herd_answer h).figures) (cut_off "n_into_yard" (herd_answer h).cuts) 3650)
  unfolding herd_answer
  answered-yard-exactly = rw (accepted, is-cattle) (yard-exactly c)

  pub answered-pasture-exactly : Same (exact_figure "n_into_grazing" (typed_of h))
      (and_over (figure "n_into_grazing" (herd_answer h).figures)
      (cut_off "n_into_grazing" (herd_answer h).cuts) 876000)
  unfolding herd_answer
  answered-pasture-exactly = rw (accepted, is-cattle) (pasture-exactly c)

-- 2.87 and 2.85: c_grazing, then er_housing multiplied in, then the free factor, each as the figures' formulas have it
module _ (h : Herd) (r : Roughage) (is-roughage : typed_of h ≡ kinds.Roughage r) where
  pub growth_quotient : quotient_under "c_grazing" (typed_of h)
      ≡ c_grazing cutting r.grazing_days r.grazing_hours
  growth_quotient = rw is-roughage (grown-whole r.grazing_days r.grazing_hours)

  pub rate_quotient : quotient_under "ef_nh3_nhousing:er_housing" (typed_of h) ≡ with_rate cutting r
  rate_quotient = rw (is-roughage, grown-whole r.grazing_days r.grazing_hours) refl

  pub free_quotient : quotient_under "ef_nh3_nhousing:c_free_factor_housing" (typed_of h) ≡ uncapped cutting r
  free_quotient = rw (is-roughage, grown-whole r.grazing_days r.grazing_hours) refl

-- 02, W7, of the answers: every cut of an accepted herd adds up to the dividend that its formula names, its quotient is
-- the figure of that name, and the names are those of the herd's kind; the cuts are all the divisions that the herd's
-- figures make, in W7's units; a refused herd has none. Assumes nothing.
use Prim.Native.Nat.{ℕ, ◌<◌}
use Prim.Native.String.{String}
use mathlib.Core.Path.{◌≡◌}
use mathlib.Core.Logic.{◌↔◌}
use lib.IntN.{pos}
use Rattle.base.specs.Each.{Each}
use Rattle.base.specs.Refused.{refuse}
use Rattle.amounts.specs.Collecting.{Division, ◌is_one_of◌}
use Rattle.farm.specs.declared.Herd.{Herd}
use Rattle.farm.specs.declared.Refusal.{Refusal}
use Rattle.farm.specs.Answers.{Accepted}
use Rattle.checks.specs.Checks.{check_herd}
use Rattle.typed_inputs.specs.Typed.{typed_of}
use Rattle.outputs.specs.Grams.{figure}
use Rattle.cuts.specs.Cuts.{divisor_of, names_made, no_cuts}
use Rattle.cuts.specs.Herd.{made_names, quotient_under, AddsUp}
use Rattle.cuts.specs.Divisions.{cuts_carried, divisions_made, divisions_carried}
use Rattle.cuts.specs.InUnits.{cuts_in_units}
use Rattle.cuts.proofs.AddUp.{cuts-add-up, cuts-named}
use Rattle.cuts.proofs.Agree.{figure_names, quotients_are-figures, scrubber_quotient}
use Rattle.cuts.proofs.InUnits.{cuts_in_units_lem}
use Rattle.cuts.proofs.EveryDivision.{every-division}
use Rattle.model.specs.Answers.{herd_answer}

module _ (h : Herd) (accepted : check_herd h ≡ Accepted) where
  -- quotient times divisor plus what was cut off is the dividend
  pub herd-cuts-add-up : (t : String) → 0 < divisor_of t (herd_answer h).cuts
      → AddsUp (typed_of h) (herd_answer h).cuts t
  unfolding herd_answer
  herd-cuts-add-up t = rw accepted (cuts-add-up (typed_of h) t)

  -- where the cut has a figure's name, the quotient is that figure
  pub herd_quotients : Each (λ t. figure t (herd_answer h).figures ≡ pos (quotient_under t (typed_of h))) figure_names
  unfolding herd_answer
  herd_quotients = rw accepted (quotients_are-figures (typed_of h))

  -- 2.51: and the last product of tan_air_scrubber is that figure
  pub herd-scrubber_quotient : figure "tan_air_scrubber" (herd_answer h).figures
      ≡ pos (quotient_under "tan_air_scrubber:ef_housing_indoor_before_air_scrubber" (typed_of h))
  unfolding herd_answer
  herd-scrubber_quotient = rw accepted (scrubber_quotient (typed_of h))

  -- no cut is missing, and there is no other
  pub herd-cuts-named : names_made (herd_answer h).cuts ≡ made_names (typed_of h)
  unfolding herd_answer
  herd-cuts-named = rw accepted (cuts-named (typed_of h))

  -- "for every cut": the divisions that the herd's figures make are those of the cuts in its answer
  pub herd-every-division : (d : Division)
      → d is_one_of divisions_made (typed_of h) ↔ d is_one_of divisions_carried (typed_of h) (herd_answer h).cuts
  unfolding herd_answer
  herd-every-division = rw accepted (every-division (typed_of h))

  -- and they are what 01's steps divide, in W7's units
  pub herd-cuts_in_units : cuts_carried (typed_of h) (herd_answer h).cuts ≡ cuts_in_units (typed_of h)
  unfolding herd_answer
  herd-cuts_in_units = rw accepted (cuts_in_units_lem (typed_of h))

-- a refused herd has none
pub refused-no-cuts : (h : Herd) (refusal : Refusal) (n : ℕ) → check_herd h ≡ refuse refusal n
    → (herd_answer h).cuts ≡ no_cuts
unfolding herd_answer
refused-no-cuts h refusal n e = rw e

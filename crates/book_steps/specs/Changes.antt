-- A step that is done, as the code has it: what is known before it, and what it makes of farm and totals. It mirrors
-- the code for its contracts; what a step is, is in crate `books`.
use Rattle.std.specs.Prelude.{◌≡◌, false, length}
use Rattle.farm.specs.declared.Herd.{Herd}
use Rattle.farm.specs.declared.Farm.{Farm}
use Rattle.farm.specs.Answers.{Accepted}
use Rattle.checks.specs.Checks.{check_farm, herds_of}
use Rattle.outputs.specs.declared.Totals.{Totals}
use Rattle.books.specs.declared.Step.{Step}
use Rattle.books.specs.declared.Stepped.{Stepped}
use Rattle.books.specs.Rules.{beyond, Done}
use Rattle.books.specs.Steps.{herds_after, totals_after}

-- a farm that the checks accept, and totals within 16's bounds
pub record Sound (f : Farm) (t : Totals) : Type 0 where
  pub accepted : check_farm f ≡ Accepted
  pub within : beyond t ≡ false

pub record Changed (step : Step) (f : Farm) (t : Totals) (h : Herd) (r : Stepped) : Type 0 where
  pub decided : r.decided ≡ Done
  pub herds : herds_of r.farm ≡ herds_after step h (herds_of f)
  pub count : r.farm.count ≡ length (herds_after step h (herds_of f))
  pub totals : r.totals ≡ totals_after step h (herds_of f) t

-- `view_calls::view_by_value` meets its contract: what the checks refuse, or what an accepted farm gets.
-- Assumes nothing.
use Rattle.contracts.proofs.RecordSteps.{farm_steps}
use borrow.Author.Rules.{rules}
use Rattle.base.proofs.SameRefused.{handed_on}
use Rattle.view_calls.proofs.view_by_value.Goals as goal

pub accepted_view-requires : goal.accepted_view-requires
accepted_view-requires c = search (rules, farm_steps, c.in_ok-check_farm.was)

pub returns : goal.returns
returns c = search (rules, farm_steps, c.in_ok-check_farm.was)

pub returns-in_err-check_farm : goal.returns-in_err-check_farm
returns-in_err-check_farm c = search (rules, farm_steps, c.in_err-check_farm.was, handed_on c.from_residual.ensures)

-- `line_calls::above_by_value` meets its contract: the answer is the one that the check picks. Assumes nothing.
use Rattle.base.proofs.SameRefused.{handed_on}
use Rattle.line_calls.proofs.Steps.{farm_steps, farm-refused}
use borrow.Author.Rules.{rules}
use Rattle.line_calls.proofs.above_by_value.Goals as goal

pub above-requires : goal.above-requires
above-requires c = search (rules, farm_steps)

pub returns : goal.returns
returns c = search (rules, farm_steps)

pub returns-in_err-check_farm : goal.returns-in_err-check_farm
returns-in_err-check_farm c =
    rw (handed_on c.from_residual.ensures)
    (farm-refused c.args.farm _ c.check_farm.ensures c.args.line _ c.in_err-check_farm.was)

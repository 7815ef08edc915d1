-- `farm_calls::farm_totals` meets its contract: what is answered is the answer of the farm that was loaded. Assumes
-- nothing.
use Rattle.farm_calls.proofs.Steps.{is-totals}
use Rattle.farm_calls.proofs.farm_totals.Goals as goal

pub returns : goal.returns
returns c = is-totals _ _ _ _ c.load.ensures c.farm_answer.ensures

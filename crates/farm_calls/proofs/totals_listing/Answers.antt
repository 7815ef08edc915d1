-- `farm_calls::totals_listing` meets its contract: what is listed is the listing of the farm that was loaded. Assumes
-- nothing.
use Rattle.farm_calls.proofs.Steps.{is-listing}
use Rattle.farm_calls.proofs.totals_listing.Goals as goal

pub returns : goal.returns
returns c = is-listing _ _ _ _ _ _ c.load.ensures c.totals_by_value.ensures

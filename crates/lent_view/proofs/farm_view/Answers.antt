-- `lent_view::farm_view` meets its contract: what is given is the view of the farm that was loaded. Assumes nothing.
use Rattle.lent_view.proofs.Views.{is_view}
use Rattle.lent_view.proofs.farm_view.Goals as goal

pub returns : goal.returns
returns c = is_view _ _ _ _ _ _ _ c.load.ensures c.view_by_value.ensures

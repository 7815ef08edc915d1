-- What stands behind the herds in a view, as the code puts it together. proofs/Behind.antt shows that the herds' texts
-- and this are the view; no reader has to believe it.
use Rattle.std.specs.Prelude.{ℕ, List, []}
use Rattle.base.specs.Pick.{pick}
use Rattle.farm.specs.declared.Farm.{Farm}
use Rattle.model.specs.Answers.{farm_answer}
use Rattle.listing.specs.Listing.{totals_listing}
use Rattle.views.specs.declared.View.{View}
use Rattle.views.specs.Views.{is_figures}

-- "then the totals" behind the figures
unfoldable pub behind : View → Farm → List ℕ
behind view f = pick (is_figures view) (totals_listing (farm_answer f).totals) []

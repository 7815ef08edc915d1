-- 02, W12: what the calls on a farm's record give, by a slice of herds and a count: the totals of the farm of the first
-- `count` herds, and their listing. To be believed.
use Rattle.std.specs.Prelude.{ℕ, List}
use Rattle.farm.specs.declared.Herd.{Herd}
use Rattle.lent.specs.Laid.{farm_in}
use Rattle.model.specs.declared.FarmAnswer.{FarmAnswer}
use Rattle.model.specs.Answers.{farm_answer}
use Rattle.contracts.specs.Listings.{Call, totals_call}

unfoldable pub totals_in : List Herd → ℕ → FarmAnswer
totals_in herds count = farm_answer (farm_in herds count)

unfoldable pub listing_in : List Herd → ℕ → Call
listing_in herds count = totals_call (farm_in herds count)

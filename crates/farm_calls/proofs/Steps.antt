-- The farm that is loaded, and what the calls by value give of it: the steps of the two calls. Assumes nothing.
use Prim.Native.Nat.{ℕ}
use mathlib.Core.Path.{◌≡◌, ap, ◌∙◌}
use mathlib.Core.List.{List}
use Rattle.farm.specs.declared.Herd.{Herd}
use Rattle.farm.specs.declared.Farm.{Farm}
use Rattle.lent.specs.Laid.{farm_in}
use Rattle.model.specs.declared.FarmAnswer.{FarmAnswer}
use Rattle.model.specs.Answers.{farm_answer}
use Rattle.contracts.specs.Listings.{Called, totals_call}
use Rattle.farm_calls.specs.Totals.{totals_in, listing_in}
use Rattle.written.specs.Answer.{Written}

module _ (herds : List Herd) (count : ℕ) (f : Farm) where
  pub is-totals : (a : FarmAnswer) → f ≡ farm_in herds count → a ≡ farm_answer f → a ≡ totals_in herds count
  unfolding totals_in
  is-totals a e q = q ∙ ap farm_answer e

  pub is-listing : (old new : List ℕ) (r : Written) → f ≡ farm_in herds count → Called (totals_call f) old new r
      → Called (listing_in herds count) old new r
  unfolding listing_in
  is-listing old new r e w = rw e at w

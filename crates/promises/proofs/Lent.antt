-- Demands 1, 2 and 3, of a farm's record that is handed in as a slice of herds and a count (02, W12): `totals_in` is
-- what the call `farm_totals` gives, `listing_in` what `totals_listing` writes. For every slice and every count.
-- Assumes nothing.
use Prim.Native.Nat.{ℕ, ◌*◌, ◌≤◌, ◌<◌}
use mathlib.Core.Path.{◌≡◌, sym, ap, ◌∙◌}
use mathlib.Core.List.{List, ◌++◌, map}
use lib.ListN.{length, take, drop}
use lib.Seq.{length-take-le}
use Rattle.cut_division.specs.Frac.{Within}
use Rattle.farm.specs.declared.Herd.{Herd}
use Rattle.farm.specs.declared.Refusal.TheVariants.{NoRoomForHerd}
use Rattle.farm.specs.Limits.{herds_most}
use Rattle.farm.specs.Refusals.{refuses, says}
use Rattle.farm.specs.Answers.{Accepted}
use Rattle.checks.specs.Checks.{check_farm, herds_of}
use Rattle.lent.specs.Laid.{farm_in}
use Rattle.lent.proofs.Loaded.{loaded_herds}
use Rattle.typed_inputs.specs.Typed.{typed_of}
use Rattle.outputs.specs.Grams.{grams_at, totals_of}
use Rattle.model.specs.declared.FarmAnswer.{FarmAnswer}
use Rattle.model.specs.Answers.{farm_answer, herd_figures}
use Rattle.nearness_theorems.specs.Promised.{promised_of_total, promised_by_herd}
use Rattle.nearness_theorems.specs.Exact.{exact_of_total}
use Rattle.written.specs.Answer.{says_of, Written}
use Rattle.listing.specs.Listing.{totals_listing}
use Rattle.contracts.specs.Listings.{Called, totals_call}
use Rattle.contracts.specs.Files.{totals_text}
use Rattle.contracts.proofs.RecordSteps.{farm-checked, farm_figured}
use Rattle.farm_calls.specs.Totals.{totals_in, listing_in}
use Rattle.farm_calls.specs.Refusals.{Beyond, GetsIn}
use Rattle.farm_calls.proofs.Refusals.{gets_in, beyond-checked, accepted-within}
use Rattle.promises.specs.Formulas.{farm_gets}
use Rattle.promises.proofs.Demand1.{Same, one-result}
use Rattle.promises.proofs.Demand2.{demand_2_farm, Listed, demand_2_listing}
use Rattle.promises.proofs.Demand3.{demand_3_farm, demand_3_by-herd}
use Rattle.base.specs.Refused.{refuse}

module _ (herds : List Herd) (count : ℕ) where
  -- ---- demand 1: no refusal applies; or the first that applies is given, with record 0

  checked : (totals_in herds count).checked ≡ check_farm (farm_in herds count)
  unfolding totals_in
  checked = farm-checked (farm_in herds count)

  pub demand_1_lent : GetsIn herds count (totals_in herds count).checked
  demand_1_lent = rw checked (gets_in herds count)

  -- a count beyond the slice, or beyond the herds that any farm may have
  module _ (b : Beyond herds count) where
    pub beyond-refused : (totals_in herds count).checked ≡ refuse NoRoomForHerd 0
    beyond-refused = checked ∙ beyond-checked b

    pub beyond-says : says (totals_in herds count).checked ≡ refuses 9 0
    beyond-says = ap says beyond-refused

    -- and nothing is written
    pub beyond-writes-nothing : {old new : List ℕ} {r : Written} → Called (listing_in herds count) old new r
        → (new ≡ old) × (r ≡ refuse NoRoomForHerd 0)
    unfolding listing_in totals_call
    beyond-writes-nothing w = (rw (beyond-checked b) at w.buffer, rw (beyond-checked b) at w.answer)

  -- any two results that the calls' contracts allow are equal, and so are the bytes that they leave
  pub one-totals : {a b : FarmAnswer} → a ≡ totals_in herds count → b ≡ totals_in herds count → a ≡ b
  one-totals e q = e ∙ sym q

  pub one-totals-listing : {old new new' : List ℕ} {r r' : Written} → Called (listing_in herds count) old new r
      → Called (listing_in herds count) old new' r' → Same new new' r r'
  one-totals-listing w v = one-result w v

  module _ (e : (totals_in herds count).checked ≡ Accepted) where
    passes : check_farm (farm_in herds count) ≡ Accepted
    passes = sym checked ∙ e

    within : (count ≤ length herds) × (count ≤ herds_most)
    within = accepted-within herds count passes

    the_first : herds_of (farm_in herds count) ≡ take count herds
    the_first = loaded_herds herds count within.0 within.1

    -- ---- demand 2: the totals are those of the first `count` herds, and so is their listing

    pub demand_2_lent : totals_in herds count ≡ farm_gets (take count herds)
    unfolding totals_in
    demand_2_lent = demand_2_farm (farm_in herds count) passes ∙ ap farm_gets the_first

    listed-as : (listing_in herds count).listing ≡ totals_text (take count herds)
    unfolding listing_in totals_call
    listed-as =
        ap totals_listing
        (farm_figured (farm_in herds count) passes ∙ ap (λ (l : List Herd). totals_of (map herd_figures l)) the_first)

    taken : (listing_in herds count).checked ≡ Accepted
    unfolding listing_in totals_call
    taken = passes

    pub demand_2_lent-listing : {old new : List ℕ} {r : Written} → Called (listing_in herds count) old new r
        → length (totals_text (take count herds)) ≤ length old → Listed (totals_text (take count herds)) old new r
    demand_2_lent-listing w h = rw listed-as at (demand_2_listing w taken (rw listed-as h))

    -- ---- demand 3: each total lies within what is promised of the herds

    pub demand_3_lent-by-herd : (t : ℕ)
        → Within (promised_by_herd (map typed_of (take count herds)) t)
        (grams_at (totals_in herds count).totals.grams t)
        (exact_of_total (map typed_of (take count herds)) t)
    unfolding totals_in
    demand_3_lent-by-herd t = rw the_first at (demand_3_by-herd (farm_in herds count) e t)

    pub demand_3_lent : (t : ℕ)
        → Within (promised_of_total t * count) (grams_at (totals_in herds count).totals.grams t)
        (exact_of_total (map typed_of (take count herds)) t)
    unfolding totals_in
    demand_3_lent t =
        rw (the_first, length-take-le count herds within.0) at (demand_3_farm (farm_in herds count) e t)

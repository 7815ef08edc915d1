-- The steps of the writing calls on a record, each in the form that a place of the code wants.
-- Assumes nothing.
use Rattle.base.specs.declared.refusals.Refused.{Refused}
use Rattle.std.specs.Prelude.{Err}
use Prim.Native.Nat.{ℕ, ◌≤◌}
use mathlib.Core.Path.{◌≡◌, refl, sym, ◌∙◌}
use mathlib.Core.List.{List, map}
use lib.ListN.{length}
use Rattle.farm.specs.declared.Herd.{Herd}
use Rattle.farm.specs.declared.Farm.{Farm}
use Rattle.farm.specs.declared.Refusal.{Refusal}
use Rattle.farm.specs.Answers.{Accepted, Checked}
use Rattle.checks.specs.Checks.{check_herd, check_farm, herds_of}
use Rattle.outputs.specs.Grams.{totals_of}
use Rattle.model.specs.declared.FarmAnswer.{FarmAnswer}
use Rattle.model.specs.Answers.{herd_figures, answer_herd, herd_answer, answer_farm, farm_answer}
use Rattle.written.specs.Answer.{Answered, Written}
use Rattle.listing.specs.Listing.{totals_listing}
use Rattle.listing_room.specs.Bounds.{totals_room}
use Rattle.listing_room.proofs.Rooms.{totals-fit}
use Rattle.views.specs.declared.View.{View}
use Rattle.views.specs.Views.{herd_text, viewed, view_checked}
use Rattle.contracts.specs.Listings.{Called, herd_call, totals_call, accepted_call, farm_call}
use Rattle.base.specs.Refused.{refuse}

-- ---- what an answer is made of

by_checks : (k : Checked) (h : Herd) → (answer_herd k h).checked ≡ k
by_checks Accepted h = refl
by_checks (Err refused) h = refl

pub herd-checked : (h : Herd) → (herd_answer h).checked ≡ check_herd h
unfolding herd_answer
herd-checked h = by_checks (check_herd h) h

pub herd_figured : (h : Herd) → check_herd h ≡ Accepted → (herd_answer h).figures ≡ herd_figures h
unfolding herd_answer
herd_figured h e = rw e

of_checks : (k : Checked) (f : Farm) → (answer_farm k f).checked ≡ k
of_checks Accepted f = refl
of_checks (Err refused) f = refl

pub farm-checked : (f : Farm) → (farm_answer f).checked ≡ check_farm f
unfolding farm_answer
farm-checked f = of_checks (check_farm f) f

pub farm_figured : (f : Farm) → check_farm f ≡ Accepted
    → (farm_answer f).totals ≡ totals_of (map herd_figures (herds_of f))
unfolding farm_answer
farm_figured f e = rw e

-- ---- a herd in a view

module _ (view : View) (h : Herd) (k : Checked) (q : k ≡ check_herd h) where
  pub accepted : k ≡ Accepted → check_herd h ≡ Accepted
  accepted t = sym q ∙ t

  pub is-herd_view : k ≡ Accepted → (old new : List ℕ) (r : Written) → Answered (herd_text view h) old new r
      → Called (herd_call view h) old new r
  unfolding herd_call
  is-herd_view t old new r w = record { buffer = rw (← q, t) w.buffer; answer = rw (← q, t) w.answer }

  pub is-herd-refused : (old : List ℕ) (why : Refused Refusal) (r : Written) → k ≡ Err why → r ≡ Err why
      → Called (herd_call view h) old old r
  unfolding herd_call
  is-herd-refused old why r t e = record { buffer = rw (← q, t); answer = rw (← q, t) e }

-- ---- a farm

module _ (f : Farm) (a : FarmAnswer) (q : a ≡ farm_answer f) where
  checked : (k : Checked) → a.checked ≡ k → check_farm f ≡ k
  checked k e = sym (farm-checked f) ∙ (rw q at e)

  pub has-totals-room : a.checked ≡ Accepted → length (totals_listing a.totals) ≤ totals_room
  has-totals-room e = rw q (totals-fit f (checked Accepted e))

  pub is-totals-listing : (old new : List ℕ) (r : Written) → a.checked ≡ Accepted
      → Answered (totals_listing a.totals) old new r
      → Called (totals_call f) old new r
  unfolding totals_call
  is-totals-listing old new r e w =
      let p = checked Accepted e in
      let w' : Answered (totals_listing (farm_answer f).totals) old new r = rw q at w in
      record { buffer = rw p w'.buffer; answer = rw p w'.answer }

  pub is-totals-refused : (old : List ℕ) (why : Refused Refusal) (r : Written) → a.checked ≡ Err why → r ≡ Err why
      → Called (totals_call f) old old r
  unfolding totals_call
  is-totals-refused old why r e same =
      let p = checked (Err why) e in
      record { buffer = rw p; answer = rw p same }

-- ---- a view of a farm: accepted, then within its limit

module _ (view : View) (f : Farm) (k : Checked) (q : k ≡ view_checked view f) where
  pub accepted-answered : k ≡ Accepted → (old new : List ℕ) (r : Written) → Answered (viewed view f) old new r
      → Called (accepted_call view f) old new r
  unfolding accepted_call
  accepted-answered t old new r w = record { buffer = rw (← q, t) w.buffer; answer = rw (← q, t) w.answer }

  pub accepted-refused : (old : List ℕ) (why : Refused Refusal) (r : Written) → k ≡ Err why → r ≡ Err why
      → Called (accepted_call view f) old old r
  unfolding accepted_call
  accepted-refused old why r t e = record { buffer = rw (← q, t); answer = rw (← q, t) e }

module _ (view : View) (f : Farm) (k : Checked) (q : k ≡ check_farm f) where
  pub farm-passes : k ≡ Accepted → check_farm f ≡ Accepted
  farm-passes t = sym q ∙ t

  pub farm-viewed : k ≡ Accepted → (old new : List ℕ) (r : Written) → Called (accepted_call view f) old new r
      → Called (farm_call view f) old new r
  unfolding accepted_call farm_call
  farm-viewed t old new r w = record { buffer = rw (← q, t) w.buffer; answer = rw (← q, t) w.answer }

  pub farm-refused : (old : List ℕ) (why : Refused Refusal) (r : Written) → k ≡ Err why → r ≡ Err why
      → Called (farm_call view f) old old r
  unfolding farm_call
  farm-refused old why r t e = record { buffer = rw (← q, t); answer = rw (← q, t) e }

pub ruleset accepted_steps = (accepted-answered, accepted-refused)

pub ruleset farm_steps = (farm-passes, farm-viewed, farm-refused)

pub ruleset herd_steps = (accepted, is-herd_view, is-herd-refused)

pub ruleset totals_steps = (has-totals-room, is-totals-listing, is-totals-refused)

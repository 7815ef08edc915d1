-- What a view lists of a slice of herds and a count: the first refusal that applies to them, then 1, then 13, and
-- nothing is written; or the view of the first `count` herds. There is one result, and what stands behind the count
-- says nothing. Assumes nothing.
use Prim.Native.Nat.{ℕ, ◌≤◌, ◌<◌}
use mathlib.Core.Path.{◌≡◌, refl, sym, ap, ◌∙◌}
use mathlib.Core.List.{List, ◌++◌}
use borrow.Author.Tests.{le-leb, lt-leb}
use lib.ListN.{length, drop, take}
use Rattle.farm.specs.declared.Herd.{Herd}
use Rattle.farm.specs.declared.Farm.{Farm}
use Rattle.farm.specs.declared.Refusal.{Refusal}
use Rattle.farm.specs.declared.Refusal.TheVariants.{FileTooLong}
use Rattle.farm.specs.Answers.{Accepted, Checked}
use Rattle.checks.specs.Checks.{check_farm}
use Rattle.lent.specs.Laid.{farm_in}
use Rattle.lent.proofs.Loaded.{loaded_herds}
use Rattle.farm_calls.specs.Refusals.{FirstIn}
use Rattle.farm_calls.proofs.Refusals.{in_refused, in_accepted, accepted-within, same-farm}
use Rattle.limits.specs.declared.Source.TheVariants.{Cooperative}
use Rattle.rules_theorems.specs.Rules.{allowed}
use Rattle.written.specs.Answer.{leaves, answers, Written}
use Rattle.views.specs.declared.View.{View}
use Rattle.views.specs.declared.View.TheVariants.{File}
use Rattle.views.specs.Views.{viewed, view_checked}
use Rattle.contracts.specs.Listings.{Call, Called, farm_call}
use Rattle.contracts.specs.Files.{view_text, InLimit}
use Rattle.contracts.proofs.Files.{viewed-is, in_limit, beyond}
use Rattle.lent_view.specs.Views.{view_in, Fine, ViewIn}
use Rattle.base.specs.Refused.{refuse}

-- the farm that is loaded, and what is given of it: the step of the call
module _ (view : View) (herds : List Herd) (count : ℕ) (f : Farm) where
  pub is_view : (old new : List ℕ) (r : Written) → f ≡ farm_in herds count → Called (farm_call view f) old new r
      → Called (view_in view herds count) old new r
  unfolding view_in
  is_view old new r e w = rw e at w

module _ (view : View) (herds : List Herd) (count : ℕ) where
  abbrev text : List ℕ
  text = view_text view (take count herds)

  -- a call that finds this, and lists this where it finds nothing
  abbrev finds : Checked → List ℕ → Call
  finds k l = record { checked = k; listing = l }

  module _ (none : Fine herds count) where
    pub passes : check_farm (farm_in herds count) ≡ Accepted
    passes = (in_accepted herds count).1 none

    pub text-is : viewed view (farm_in herds count) ≡ text
    text-is =
        let w = accepted-within herds count passes in
        viewed-is view (farm_in herds count) passes ∙ ap (view_text view) (loaded_herds herds count w.0 w.1)

    pub is-fine : InLimit view text → view_in view herds count ≡ finds Accepted text
    unfolding view_in farm_call
    is-fine h =
        let k = in_limit view (farm_in herds count) (rw text-is h) in
        rw (passes, k, text-is)

    over : view ≡ File → (allowed Cooperative).bytes < length text
        → (view_in view herds count).checked ≡ refuse FileTooLong 0
    unfolding view_in farm_call
    over e h = rw passes (beyond-of view (farm_in herds count) e (rw text-is h))
      where
        beyond-of : (v : View) (f : Farm) → v ≡ File → (allowed Cooperative).bytes < length (viewed v f)
            → view_checked v f ≡ refuse FileTooLong 0
        beyond-of v f e h = rw e (beyond f (rw e at h))

  first : {refusal : Refusal} → FirstIn herds count refusal
      → (view_in view herds count).checked ≡ refuse refusal 0
  unfolding view_in farm_call
  first {refusal} x = rw ((in_refused herds count 0 refusal).1 (x, refl))

  module _ {old new : List ℕ} {r : Written} (w : Called (view_in view herds count) old new r) where
    pub view_in_lem : ViewIn view herds count old new r
    unfolding leaves answers
    view_in_lem =
        record {
          refused = λ x. let e = first x in (rw e at w.buffer, rw e at w.answer);
          too_long = λ none f h. let e = over none f h in (rw e at w.buffer, rw e at w.answer);
          too_short = λ none i h.
              let e = is-fine none i in
              let t = lt-leb _ _ h in
              (rw (e, t) at w.buffer, rw (e, t) at w.answer);
          listed = λ none i h.
              let e = is-fine none i in
              let t = le-leb _ _ h in
              (rw (e, t) at w.buffer, rw (e, t) at w.answer);
        }

-- any two results that are allowed are equal, and so are the bytes
pub one_view_in : (view : View) (herds : List Herd) (count : ℕ) {old new new' : List ℕ} {r r' : Written}
    → Called (view_in view herds count) old new r → Called (view_in view herds count) old new' r'
    → (new ≡ new') × (r ≡ r')
one_view_in view herds count a b = (a.buffer ∙ sym b.buffer, a.answer ∙ sym b.answer)

pub view_of_the_first : (view : View) (a b : List Herd) (count : ℕ) → count ≤ length a → count ≤ length b
    → take count a ≡ take count b → view_in view a count ≡ view_in view b count
unfolding view_in
view_of_the_first view a b count h k e = rw (same-farm a b count h k e)

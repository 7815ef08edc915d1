-- 02, W5 and W12: what the call on a farm's record gives in a view, by a slice of herds and a count: what the view
-- lists of the farm of the first `count` herds. And the same by the refusals that apply to the slice and the count
-- (crate `farm_calls`): these first, then 1, then 13; proofs/Views.antt shows that it is that. To be believed.
use Rattle.std.specs.Prelude.{ℕ, ◌≤◌, ◌<◌, ◌≡◌, List, ◌++◌, length, drop, take, Ok}
use Rattle.farm.specs.declared.Herd.{Herd}
use Rattle.farm.specs.declared.Refusal.{Refusal}
use Rattle.farm.specs.declared.Refusal.TheVariants.{FileTooLong, BufferTooShort}
use Rattle.lent.specs.Laid.{farm_in}
use Rattle.farm_calls.specs.Refusals.{AppliesIn, FirstIn}
use Rattle.limits.specs.declared.Source.TheVariants.{Cooperative}
use Rattle.rules_theorems.specs.Rules.{allowed}
use Rattle.views.specs.declared.View.{View}
use Rattle.views.specs.declared.View.TheVariants.{File}
use Rattle.contracts.specs.Listings.{Call, farm_call}
use Rattle.contracts.specs.Files.{view_text, InLimit}
use Rattle.base.specs.Refused.{refuse}
use Rattle.written.specs.Answer.{Written}

unfoldable pub view_in : View → List Herd → ℕ → Call
view_in view herds count = farm_call view (farm_in herds count)

-- no refusal applies to the slice and the count
abbrev pub Fine : List Herd → ℕ → Type 0
Fine herds count = (place : ℕ) (refusal : Refusal) → AppliesIn herds count place refusal → ⊥

-- what a call leaves and says
pub record ViewIn (view : View) (herds : List Herd) (count : ℕ) (old new : List ℕ) (r : Written) : Type 0 where
  pub refused : {refusal : Refusal} → FirstIn herds count refusal → (new ≡ old) × (r ≡ refuse refusal 0)
  pub too_long : Fine herds count → view ≡ File
      → (allowed Cooperative).bytes < length (view_text view (take count herds))
      → (new ≡ old) × (r ≡ refuse FileTooLong 0)
  pub too_short : Fine herds count → InLimit view (view_text view (take count herds))
      → length old < length (view_text view (take count herds)) → (new ≡ old) × (r ≡ refuse BufferTooShort 0)
  pub listed : Fine herds count → InLimit view (view_text view (take count herds))
      → length (view_text view (take count herds)) ≤ length old
      → (new ≡ view_text view (take count herds) ++ drop (length (view_text view (take count herds))) old)
      × (r ≡ Ok (length (view_text view (take count herds))))

-- 02, W2, of a record that is handed in: the answer is the first of 01's refusals that applies; where none does, 10 for
-- a herd without a yard; else the first reason whose fact holds. And there is one such answer. Assumes nothing.
use mathlib.Core.Path.{◌≡◌, refl, subst}
use mathlib.Core.Bool.{Bool, true, false}
use Rattle.base.proofs.Clash.{clash}
use Rattle.farm.specs.declared.Herd.{Herd}
use Rattle.farm.specs.Answers.{Checked}
use Rattle.checks.specs.Refusals.{RecordGets, fine, gets_refusal}
use Rattle.checks.specs.Refusals as handed
use Rattle.checks.proofs.Refuses.{record_gets, one-first}
use Rattle.kinds.specs.declared.Outdoor.{Outdoor}
use Rattle.kinds.specs.declared.Inputs.{Inputs}
use Rattle.kinds.specs.declared.Inputs.TheVariants as kinds
use Rattle.yard.specs.Yard.{days_with_grazing_and_yard}
use Rattle.typed_inputs.specs.Typed.{typed_of}
use Rattle.reasons.specs.declared.Reason.{Reason}
use Rattle.reasons.specs.Reasons.{number, chosen_share, reason_of, share_from, told_of, FirstReason}
use Rattle.reasons.specs.Reasons.{HasOutdoor, cattle}
use Rattle.reasons.specs.Answers.{checked_answer, reason_answer, Says, because, says, ReasonGets}
use Rattle.reasons.proofs.Reasons.{first-reason, one-reason, told_of_lem, no-yard}

-- a herd has a yard, or it has none
data Yarded (i : Inputs) : Type 0 where
  with_yard : (o : Outdoor) → HasOutdoor i o → Yarded i
  without : ((o : Outdoor) → HasOutdoor i o → ⊥) → Yarded i

abbrev has_yard : Inputs → Bool
has_yard (kinds.Roughage r) = false
has_yard (kinds.Cattle c) = true
has_yard (kinds.Pigs p) = false

has-yard : {i : Inputs} {o : Outdoor} → HasOutdoor i o → has_yard i ≡ true
has-yard cattle = refl

none : (i : Inputs) → has_yard i ≡ false → (o : Outdoor) → HasOutdoor i o → ⊥
none i e o y = let t = has-yard y in clash cc

yarded : (i : Inputs) → Yarded i
yarded (kinds.Roughage r) = without (none (kinds.Roughage r) refl)
yarded (kinds.Cattle c) = with_yard c.outdoor cattle
yarded (kinds.Pigs p) = without (none (kinds.Pigs p) refl)

pub reason_gets : (h : Herd) → ReasonGets h (says (reason_answer h))
unfolding reason_answer
reason_gets h = go (record_gets (handed.herd h)) (yarded (typed_of h))
  where
    go : {k : Checked} → RecordGets (handed.herd h) k → Yarded (typed_of h)
        → ReasonGets h (says (checked_answer k (told_of (typed_of h))))
    go (gets_refusal f) y = ReasonGets.gets_refusal f
    go (fine f) (without n) = rw (no-yard (typed_of h) n).0 (ReasonGets.other_kind f n)
    go (fine f) (with_yard o y) = rw (told_of_lem y) (ReasonGets.reason f y ((first-reason o (reason_of o)).0 refl))

one-outdoor : {i : Inputs} {o p : Outdoor} → HasOutdoor i o → HasOutdoor i p → o ≡ p
one-outdoor cattle cattle = refl

-- what a herd is told for this reason
abbrev for : Outdoor → Reason → Says
for o r = because (number r) (days_with_grazing_and_yard o) (chosen_share o) (share_from r (chosen_share o))

same : {o p : Outdoor} {r s : Reason} → o ≡ p → FirstReason o r → FirstReason p s → for o r ≡ for p s
same {p = p} {r = r} e f g = let k : FirstReason p r = subst (λ x. FirstReason x r) e f in rw (e, one-reason p k g)

pub one_answer : (h : Herd) {s t : Says} → ReasonGets h s → ReasonGets h t → s ≡ t
one_answer h (ReasonGets.gets_refusal f) (ReasonGets.gets_refusal g) = rw (one-first f g)
one_answer h (ReasonGets.gets_refusal f) (ReasonGets.other_kind g n) = absurd (g f.place _ f.is_first.applies)
one_answer h (ReasonGets.gets_refusal f) (ReasonGets.reason g y r) = absurd (g f.place _ f.is_first.applies)
one_answer h (ReasonGets.other_kind g n) (ReasonGets.gets_refusal f) = absurd (g f.place _ f.is_first.applies)
one_answer h (ReasonGets.other_kind g n) (ReasonGets.other_kind k m) = refl
one_answer h (ReasonGets.other_kind g n) (ReasonGets.reason k y r) = absurd (n _ y)
one_answer h (ReasonGets.reason g y r) (ReasonGets.gets_refusal f) = absurd (g f.place _ f.is_first.applies)
one_answer h (ReasonGets.reason g y r) (ReasonGets.other_kind k n) = absurd (n _ y)
one_answer h (ReasonGets.reason g y r) (ReasonGets.reason k z s) = same (one-outdoor y z) r s

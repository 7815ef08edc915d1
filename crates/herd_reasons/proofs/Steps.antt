-- The steps of the reasons, each in the form that a place of the code wants. Assumes nothing.
use Rattle.base.specs.declared.refusals.Refused.{Refused}
use Rattle.std.specs.Prelude.{None, Ok, Some, Err}
use Prim.Native.Nat.{ℕ, ◌≤◌, ◌<◌}
use mathlib.Core.Path.{◌≡◌, sym, ◌∙◌}
use mathlib.Core.Bool.{Bool, true, false}
use borrow.Author.Tests.{ne_eqb, le-leb, lt-leb}
use Rattle.amounts.specs.Units.{tenths}
use Rattle.amounts.specs.Bounds.{UpTo}
use Rattle.kinds.specs.declared.Outdoor.{Outdoor}
use Rattle.kinds.specs.declared.Roughage.{Roughage}
use Rattle.kinds.specs.declared.Cattle.{Cattle}
use Rattle.kinds.specs.declared.Pigs.{Pigs}
use Rattle.kinds.specs.declared.Inputs.{Inputs}
use Rattle.kinds.specs.declared.Inputs.TheVariants as kinds
use Rattle.kinds.specs.Sound.{SoundOutdoor, Sound}
use Rattle.kinds.proofs.OfKind.{sound-cattle}
use Rattle.yard.specs.Yard.{share_excretion}
use Rattle.yard.specs.Bounds.{DaysWithBoth}
use Rattle.farm.specs.declared.Herd.{Herd}
use Rattle.farm.specs.declared.Refusal.{Refusal}
use Rattle.farm.specs.declared.Refusal.TheVariants.{OtherKind}
use Rattle.farm.specs.Answers.{Accepted, Checked}
use Rattle.checks.specs.Checks.{check_herd}
use Rattle.typed_inputs.specs.Typed.{typed_of}
use Rattle.typed_inputs.proofs.Sound.{typed_sound}
use Rattle.reasons.specs.declared.Reason.{Reason}
use Rattle.reasons.specs.declared.Reason.TheVariants.{NoSuchDays, NotAvailable, AsChosen, Lowered}
use Rattle.reasons.specs.declared.Why.{Why}
use Rattle.reasons.specs.Reasons.{partly, is_not_available, reason_of, share_from, why_of, told_of, YardReason}
use Rattle.reasons.specs.Answers.{told_answer, reason_answer, ReasonAnswer}
use Rattle.base.specs.Refused.{refuse}

-- ---- the tests, in their order

module _ (o : Outdoor) (both : ℕ) (eb : DaysWithBoth o both) where
  pub no-days : both ≡ 0 → NoSuchDays ≡ reason_of o
  unfolding reason_of
  no-days e = rw (← eb.is, e)

  module _ (some : both ≡ 0 → ⊥) (a : Bool) (ea : a ≡ is_not_available o.exercise_yard) where
    pub none-there : a ≡ true → NotAvailable ≡ reason_of o
    unfolding reason_of
    none-there e = rw (← eb.is, ne_eqb both 0 some, ← ea, e)

    module _ (there : a ≡ false) (share : ℕ) (es : UpTo tenths (share_excretion o.exercise_yard) share) where
      pub is-chosen : share ≤ partly → AsChosen ≡ reason_of o
      unfolding reason_of
      is-chosen h = rw (← eb.is, ne_eqb both 0 some, ← ea, there, ← es.is, le-leb share partly h)

      pub is-lowered : partly < share → Lowered ≡ reason_of o
      unfolding reason_of
      is-lowered h = rw (← eb.is, ne_eqb both 0 some, ← ea, there, ← es.is, lt-leb share partly h)

pub ruleset reason_steps = (no-days, none-there, is-chosen, is-lowered)

pub is-why : (o : Outdoor) (r : Reason) (chosen both share : ℕ) → r ≡ reason_of o
    → UpTo tenths (share_excretion o.exercise_yard) chosen → DaysWithBoth o both → share ≡ share_from r chosen
    → record { reason = r; days = both; chosen = chosen; share = share } ≡ why_of o
is-why o r chosen both share er ec eb es = rw (es, er, ec.is, eb.is)

-- ---- by the kind

module _ (i : Inputs) where
  pub outdoor-sound : (c : Cattle) → Sound i → i ≡ kinds.Cattle c → SoundOutdoor c.outdoor
  outdoor-sound c s e = (sound-cattle i s c e).outdoor

  pub told-cattle : (c : Cattle) → i ≡ kinds.Cattle c → (w : Why) → w ≡ why_of c.outdoor → Some w ≡ told_of i
  unfolding told_of
  told-cattle c e w ew = rw (ew, e)

  pub told-roughage : (r : Roughage) → i ≡ kinds.Roughage r → None ≡ told_of i
  unfolding told_of
  told-roughage r e = rw e

  pub told-pigs : (p : Pigs) → i ≡ kinds.Pigs p → None ≡ told_of i
  unfolding told_of
  told-pigs p e = rw e

pub ruleset kind_steps = (outdoor-sound, told-cattle, told-roughage, told-pigs)

-- ---- a herd's record

module _ (t : YardReason) where
  pub answer-given : (w : Why) → t ≡ Some w → Ok (Some w) ≡ told_answer t
  answer-given w e = rw e

  pub answer-refused : t ≡ None → refuse OtherKind 0 ≡ told_answer t
  answer-refused e = rw e

pub ruleset told_steps = (answer-given, answer-refused)

module _ (h : Herd) (k : Checked) (q : k ≡ check_herd h) where
  pub accepted-sound : (i : Inputs) → k ≡ Accepted → i ≡ typed_of h → Sound i
  accepted-sound i t e = rw e (typed_sound h (sym q ∙ t))

  pub is-answer : (i : Inputs) (w : YardReason) (r : ReasonAnswer) → k ≡ Accepted → i ≡ typed_of h → w ≡ told_of i
      → r ≡ told_answer w → r ≡ reason_answer h
  unfolding reason_answer
  is-answer i w r t e ew er = rw (er, ew, e, ← q, t)

  pub is-refused : (why : Refused Refusal) → k ≡ Err why → Err why ≡ reason_answer h
  unfolding reason_answer
  is-refused why t = rw (← q, t)

pub ruleset answer_steps = (accepted-sound, is-answer, is-refused)

-- 02, W2, of a record that is handed in: "Refusals: 01's for a herd record, then 10 with record 0 for a herd of another
-- kind." To be believed.
use Rattle.std.specs.Prelude.{ℕ, None, Ok, Some, Err, Option}
use Rattle.farm.specs.declared.Herd.{Herd}
use Rattle.farm.specs.declared.Refusal.{Refusal}
use Rattle.farm.specs.declared.Refusal.TheVariants.{OtherKind}
use Rattle.farm.specs.Refusals as refusals
use Rattle.farm.specs.Answers.{Accepted, Checked, Answer}
use Rattle.checks.specs.Checks.{check_herd}
use Rattle.checks.specs.Refusals.{AppliesAt, FirstOfRecord}
use Rattle.checks.specs.Refusals as handed
use Rattle.kinds.specs.declared.Outdoor.{Outdoor}
use Rattle.typed_inputs.specs.Typed.{typed_of}
use Rattle.reasons.specs.declared.Reason.{Reason}
use Rattle.reasons.specs.Reasons.{number, chosen_share, share_from, told_of, FirstReason, HasOutdoor, YardReason}
use Rattle.yard.specs.Yard.{days_with_grazing_and_yard}
use Rattle.base.specs.Refused.{refuse}
use Rattle.reasons.specs.declared.Why.{Why}

-- of a herd's record: the reason, and none for a file that has no such herd
abbrev pub ReasonAnswer : Type 0
ReasonAnswer = Answer (Option Why)

abbrev pub told_answer : YardReason → ReasonAnswer
told_answer (Some why) = Ok (Some why)
told_answer None = refuse OtherKind 0

-- 01's refusals come first
abbrev pub checked_answer : Checked → YardReason → ReasonAnswer
checked_answer Accepted told = told_answer told
checked_answer (Err refused) told = Err refused

unfoldable pub reason_answer : Herd → ReasonAnswer
reason_answer h = checked_answer (check_herd h) (told_of (typed_of h))

-- what an answer says in numbers: the reason's number, the days with both, the shares in tenths as chosen and on those
-- days; that there is no such herd; or the refusal's number and the record's
pub data Says : Type 0 where
  because : (reason days chosen share : ℕ) → Says
  no_such_herd : Says
  refuses : (gets_refusal at_record : ℕ) → Says

abbrev pub says : ReasonAnswer → Says
says (Ok (Some why)) = because (number why.reason) why.days why.chosen why.share
says (Ok None) = no_such_herd
says (Err refused) = refuses (refusals.number refused.0) refused.1

-- ---- the same without a word of how it is found: proofs/Gets.antt shows that it is that one

-- none of 01's refusals of a herd's record applies
abbrev pub Fine : Herd → Type 0
Fine h = (place : ℕ) (refusal : Refusal) → AppliesAt (handed.herd h) place refusal → ⊥

pub data ReasonGets (h : Herd) : Says → Type 0 where
  gets_refusal : {refusal : Refusal} → FirstOfRecord (handed.herd h) refusal
      → ReasonGets h (refuses (refusals.number refusal) 0)
  other_kind : Fine h → ((o : Outdoor) → HasOutdoor (typed_of h) o → ⊥) → ReasonGets h (refuses 10 0)
  reason : {o : Outdoor} {r : Reason} → Fine h → HasOutdoor (typed_of h) o → FirstReason o r
      → ReasonGets h
      (because (number r) (days_with_grazing_and_yard o) (chosen_share o) (share_from r (chosen_share o)))

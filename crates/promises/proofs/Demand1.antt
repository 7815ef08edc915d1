-- Demand 1: a file of any bytes gets either the farm's figures or exactly one numbered refusal with its record number,
-- always the first that applies in the written order; a refusal leaves the lent buffer untouched. And any two results
-- that a call's contract allows are equal. So of a record that is handed in. What a call says is told in 01's numbers,
-- by `says` of crate `farm` and `says_of` of crate `written`; what the checks of a record say, by `herd-says` and
-- `farm-says` of crate `checks`. Assumes nothing.
use Rattle.std.specs.Prelude.{Ok, Err}
use Prim.Native.Nat.{ℕ, ◌≤◌, ◌<◌}
use mathlib.Core.Path.{◌≡◌, refl, sym, ap, ◌∙◌}
use mathlib.Core.Bool.{Bool, true, false}
use mathlib.Core.List.{List, ◌++◌}
use native.Mathlib.Omega.{arith}
use borrow.Author.Tests.{leb-true, leb-false}
use lib.Dec.{leb}
use lib.ListN.{length, drop}
use Rattle.base.specs.Pick.{pick}
use Rattle.base.proofs.Clash.{clash}
use Rattle.base.specs.Refused.{refuse}
use Rattle.farm.specs.declared.Herd.{Herd}
use Rattle.farm.specs.declared.Farm.{Farm}
use Rattle.farm.specs.declared.Refusal.{Refusal}
use Rattle.farm.specs.declared.Refusal.TheVariants.{BufferTooShort}
use Rattle.farm.specs.Refusals.{number, Says, accepts, gives, refuses, says}
use Rattle.farm.specs.Answers.{Accepted, Checked}
use Rattle.checks.specs.Refusals.{herd, farm as farm-record, RecordGets}
use Rattle.checks.proofs.Refuses.{record_gets}
use Rattle.limits.specs.declared.Limits.{Limits}
use Rattle.limits.specs.declared.Source.{Source}
use Rattle.limits.specs.Limits.{limits_of}
use Rattle.reader.specs.declared.FileAnswer.{FileAnswer}
use Rattle.reader.specs.Files.{read_of, accepted, refused}
use Rattle.first_refusal.specs.Records.{Record}
use Rattle.rules_theorems.specs.Rules.{allowed, KeepsRules}
use Rattle.rules_theorems.specs.Refusals.{
  First,
  AppliesAt,
  too_long,
  broken,
  wrong,
  missing,
  Applies,
  not_four_fields,
  bad_label,
  not_in_the_list,
  standard_forbidden,
  bad_value,
  has_earlier_label,
  no_room_for_herd,
  other_kind,
  given_already,
}
use Rattle.rules_theorems.proofs.Accepts.{accepts-exactly}
use Rattle.rules_theorems.proofs.Refuses.{Outcome, takes, gives as gives-first, outcome-of}
use Rattle.model.specs.Answers.{herd_answer, farm_answer}
use Rattle.written.specs.Answer.{leaves, answers, says_of, Written}
use Rattle.views.specs.declared.View.{View}
use Rattle.views.specs.declared.Output.{Output}
use Rattle.views.specs.Program.{read_for, ended_of, PutOutput}
use Rattle.contracts.specs.Listings.{Call, Called, left, answer_of}
use Rattle.contracts.proofs.RecordSteps.{herd-checked, farm-checked}

-- ---- a file

-- what a file gets, from each source: the farm that it says, by the rules; or the first refusal in the written order
pub data Gets (source : Source) (s : List ℕ) : FileAnswer → Type 0 where
  farm : {f : Farm} → KeepsRules (allowed source) s f → Gets source s (accepted f)
  gets_refusal : {n : ℕ} {refusal : Refusal} → First (allowed source) s n refusal → Gets source s (refused n refusal)

pub demand_1 : (source : Source) (s : List ℕ) → Gets source s (read_of (limits_of source) s)
demand_1 source s = by (read_of (limits_of source) s) refl (outcome-of source s)
  where
    by : (x : FileAnswer) → read_of (limits_of source) s ≡ x → Outcome (allowed source) s x → Gets source s x
    by x e (takes {f = f} none) = farm ((accepts-exactly source s f).0 e)
    by x e (gives-first r) = gets_refusal r

-- and what is said of it
pub data FileSays (source : Source) (s : List ℕ) : Says → Type 0 where
  fine : {f : Farm} → KeepsRules (allowed source) s f → FileSays source s accepts
  first : {n : ℕ} {refusal : Refusal} → First (allowed source) s n refusal
      → FileSays source s (refuses (number refusal) n)

pub demand_1_says : (source : Source) (s : List ℕ) → FileSays source s (says (read_of (limits_of source) s).checked)
demand_1_says source s = by (demand_1 source s)
  where
    by : {a : FileAnswer} → Gets source s a → FileSays source s (says a.checked)
    by (farm keeps) = fine keeps
    by (gets_refusal r) = first r

-- 01: "13 belongs to the writing calls alone"
of-a_record : {limits : Limits} {before : List Record} {cs : Record} {refusal : Refusal}
    → Applies limits before cs refusal
    → number refusal < 13
of-a_record (not_four_fields a) = omega arith
of-a_record (bad_label a) = omega arith
of-a_record (not_in_the_list a) = omega arith
of-a_record (standard_forbidden a b c) = omega arith
of-a_record (bad_value a b) = omega arith
of-a_record (has_earlier_label a b) = omega arith
of-a_record (no_room_for_herd a b) = omega arith
of-a_record (other_kind a b c d e) = omega arith
of-a_record (given_already a b) = omega arith

of-a-file : {limits : Limits} {s : List ℕ} {n : ℕ} {refusal : Refusal} → AppliesAt limits s n refusal
    → number refusal < 13
of-a-file (too_long a) = omega arith
of-a-file (broken a) = omega arith
of-a-file (wrong a b) = of-a_record b
of-a-file (missing before cs after a b) = omega arith

pub never_13 : {limits : Limits} {s : List ℕ} {n : ℕ} {refusal : Refusal} → First limits s n refusal
    → number refusal < 13
never_13 r = of-a-file r.applies

-- ---- a record that is handed in: no refusal applies to it; or the first that applies is given, with record 0

pub demand_1_herd : (h : Herd) → RecordGets (herd h) (herd_answer h).checked
demand_1_herd h = rw (herd-checked h) (record_gets (herd h))

pub demand_1_farm : (f : Farm) → RecordGets (farm-record f) (farm_answer f).checked
demand_1_farm f = rw (farm-checked f) (record_gets (farm-record f))

-- ---- a writing call

-- what it says: the listing's length; what its checks or reading refuse; 13 only where they find nothing
pub data CallSays (c : Call) (old : List ℕ) : Says → Type 0 where
  listed : says c.checked ≡ accepts → length c.listing ≤ length old → CallSays c old (gives (length c.listing))
  too_short : says c.checked ≡ accepts → length old < length c.listing → CallSays c old (refuses 13 0)
  as-found : {k n : ℕ} → says c.checked ≡ refuses k n → CallSays c old (refuses k n)

module _ (c : Call) (old : List ℕ) where
  by-room : says c.checked ≡ accepts → (t : Bool) → leb (length c.listing) (length old) ≡ t
      → CallSays c old (says_of (pick t (Ok (length c.listing)) (refuse BufferTooShort 0)))
  by-room a true e = listed a (leb-true _ _ e)
  by-room a false e = too_short a (leb-false _ _ e)

  by_finding : (k : Checked) → c.checked ≡ k → CallSays c old (says_of (answer_of k c.listing old))
  unfolding answers
  by_finding Accepted e = by-room (ap says e) (leb (length c.listing) (length old)) refl
  by_finding (Err refused) e = as-found (ap says e)

pub call_says : {c : Call} {old new : List ℕ} {r : Written} → Called c old new r → CallSays c old (says_of r)
call_says {c} {old} w = rw w.answer (by_finding c old c.checked refl)

-- one that says a refusal, 13 too, leaves the buffer as it was
fits_or_not : (listing old : List ℕ) (t : Bool) (k n : ℕ)
    → says_of (pick t (Ok (length listing)) (refuse BufferTooShort 0)) ≡ refuses k n
    → pick t (listing ++ drop (length listing) old) old ≡ old
fits_or_not listing old true k n e = clash cc
fits_or_not listing old false k n e = refl

by_checks : (c : Checked) (listing old : List ℕ) (k n : ℕ) → says_of (answer_of c listing old) ≡ refuses k n
    → left c listing old ≡ old
unfolding leaves answers
by_checks Accepted listing old k n e = fits_or_not listing old (leb (length listing) (length old)) k n e
by_checks (Err refused) listing old k n e = refl

pub refusal-leaves : {c : Call} {old new : List ℕ} {r : Written} (k n : ℕ) → Called c old new r
    → says_of r ≡ refuses k n
    → new ≡ old
refusal-leaves {c} {old} {new} {r} k n w e = w.buffer
    ∙ by_checks c.checked c.listing old k n (sym (ap says_of w.answer) ∙ e)

-- any two results that a writing call's contract allows are equal, and so are the bytes that it leaves; every other
-- call's contract says what its result is
pub record Same (new new' : List ℕ) (r r' : Written) : Type 0 where
  pub bytes : new ≡ new'
  pub answer : r ≡ r'

pub one-result : {c : Call} {old new new' : List ℕ} {r r' : Written} → Called c old new r → Called c old new' r'
    → Same new new' r r'
one-result w v = record { bytes = w.buffer ∙ sym v.buffer; answer = w.answer ∙ sym v.answer }

-- and so of what a command prints
pub record SameOutput (new new' : List ℕ) (a a' : Output) : Type 0 where
  pub bytes : new ≡ new'
  pub length : a.length ≡ a'.length
  pub ended : a.ended ≡ a'.ended

pub one_output : {source : Source} {view : View} {s old new new' : List ℕ} {a a' : Output}
    → PutOutput source view s old new a → PutOutput source view s old new' a' → SameOutput new new' a a'
one_output {source} {view} {s} w v =
    let same = w.bytes.past ∙ sym v.bytes.past in
    record {
      bytes = w.bytes.bytes ∙ sym v.bytes.bytes;
      length = same;
      ended = w.ended ∙ ap (ended_of (read_for source view s)) same ∙ sym v.ended;
    }

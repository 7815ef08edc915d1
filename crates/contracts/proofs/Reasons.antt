-- 02, W2, the reason of a herd of a file: the steps of the code, and that it is what the rules ask. Assumes nothing.
use Rattle.base.specs.declared.refusals.Refused.{Refused}
use Rattle.std.specs.Prelude.{None, Ok, Err}
use Prim.Native.Nat.{ℕ, ◌≤◌, ◌<◌}
use mathlib.Core.Path.{◌≡◌, ap, ◌∙◌}
use mathlib.Core.List.{List, []}
use lib.ListN.{length, get_or}
use borrow.Author.Tests.{lt-ltb, le-ltb}
use Rattle.farm.specs.declared.Herd.{Herd}
use Rattle.farm.specs.declared.Refusal.{Refusal}
use Rattle.farm.specs.Herds.{no_herd}
use Rattle.farm.specs.Answers.{Accepted}
use Rattle.limits.specs.declared.Source.{Source}
use Rattle.limits.specs.Limits.{limits_of}
use Rattle.reader.specs.declared.FileAnswer.{FileAnswer}
use Rattle.reader.specs.Files.{read_of}
use Rattle.reasons.specs.Answers.{reason_answer, ReasonAnswer}
use Rattle.contracts.specs.Reasons.{file_reason, ReasonByTheRules}
use Rattle.contracts.proofs.FileSteps.{in_array, place-fits, as-accepted, herd-at, refusing}
use Rattle.contracts.proofs.Files.{at-inside, at-is, places, read_as, read-not}
use Rattle.base.specs.Refused.{refuse}

-- ---- the code's steps

module _ (source : Source) (s : List ℕ) (a : FileAnswer) (q : a ≡ read_of (limits_of source) s) where
  module _ (e : a.checked ≡ Accepted) (i : ℕ) where
    pub is-file-reason : (d : Herd) (r : ReasonAnswer) → i < a.farm.count
        → r ≡ reason_answer (get_or a.farm.herds i d) → r ≡ file_reason source s i
    unfolding file_reason
    is-file-reason d r h er =
        er ∙ rw (as-accepted source s a q e, lt-ltb i a.farm.count h)
        (ap reason_answer (herd-at source s a q e i d h))

    pub is-no-herd : a.farm.count ≤ i → Ok None ≡ file_reason source s i
    unfolding file_reason
    is-no-herd h = rw (as-accepted source s a q e, le-ltb i a.farm.count h)

  pub is_unread : (why : Refused Refusal) (i : ℕ) (r : ReasonAnswer) → a.checked ≡ Err why → r ≡ Err why
      → r ≡ file_reason source s i
  unfolding file_reason
  is_unread why i r e same = rw (refusing source s a q why e []) same

pub ruleset file_reason_steps = (in_array, place-fits, is-file-reason, is-no-herd, is_unread)

-- ---- by the rules

pub file-reason : (source : Source) (s : List ℕ) (i : ℕ) → ReasonByTheRules source s i (file_reason source s i)
unfolding file_reason
file-reason source s i =
    record {
      refused = λ x. rw (read-not source x);
      of_herd = λ k a.
          rw (read_as source k, lt-ltb i (length k.says.herds) (at-inside a))
          (ap reason_answer (at-is a (places source k) no_herd));
      past_the_last = λ k b. rw (read_as source k, le-ltb i (length k.says.herds) b);
    }

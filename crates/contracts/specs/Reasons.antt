-- 02, W2: the reason of a herd of a file, counted from 0: the refusal of the file comes first, and a herd past the last
-- of an accepted file is none, as it has an empty listing (01). And the same by the rules that a file keeps or breaks;
-- proofs/Reasons.antt shows that it is that. To be believed.
use Rattle.std.specs.Prelude.{ℕ, ◌≤◌, ◌≡◌, List, ltb, length, get_or, None, Ok, Err}
use Rattle.base.specs.Pick.{pick}
use Rattle.base.specs.Refused.{refuse}
use Rattle.farm.specs.declared.Herd.{Herd}
use Rattle.farm.specs.declared.Farm.{Farm}
use Rattle.farm.specs.declared.Refusal.{Refusal}
use Rattle.farm.specs.Herds.{no_herd}
use Rattle.farm.specs.Answers.{Accepted, Checked}
use Rattle.limits.specs.declared.Source.{Source}
use Rattle.limits.specs.Limits.{limits_of}
use Rattle.reader.specs.Files.{read_of}
use Rattle.rules_theorems.specs.Rules.{allowed, KeepsRules}
use Rattle.rules_theorems.specs.Refusals.{First}
use Rattle.reasons.specs.Answers.{reason_answer, ReasonAnswer}
use Rattle.contracts.specs.Files.{At}

-- of a farm's herd
abbrev pub reason_at : Farm → ℕ → ReasonAnswer
reason_at f i = pick (ltb i f.count) (reason_answer (get_or f.herds i no_herd)) (Ok None)

abbrev pub read_reason : Checked → Farm → ℕ → ReasonAnswer
read_reason Accepted f i = reason_at f i
read_reason (Err refused) f i = Err refused

unfoldable pub file_reason : Source → List ℕ → ℕ → ReasonAnswer
file_reason source s i = read_reason (read_of (limits_of source) s).checked (read_of (limits_of source) s).farm i

pub record ReasonByTheRules (source : Source) (s : List ℕ) (i : ℕ) (r : ReasonAnswer) : Type 0 where
  pub refused : {n : ℕ} {refusal : Refusal} → First (allowed source) s n refusal → r ≡ refuse refusal n
  pub of_herd : {f : Farm} {h : Herd} (k : KeepsRules (allowed source) s f) → At k.says.herds i h
      → r ≡ reason_answer h
  pub past_the_last : {f : Farm} (k : KeepsRules (allowed source) s f) → length k.says.herds ≤ i → r ≡ Ok None

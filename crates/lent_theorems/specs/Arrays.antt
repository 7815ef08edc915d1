-- 02, W12, a file read into a lent array, as a reader of the request has it. To be believed.
use Rattle.std.specs.Prelude.{ℕ, min, ◌≡◌, List, ◌++◌, length, drop}
use Rattle.farm.specs.declared.Herd.{Herd}
use Rattle.farm.specs.declared.Refusal.{Refusal}
use Rattle.farm.specs.Answers.{Accepted}
use Rattle.limits.specs.declared.Limits.{Limits}
use Rattle.limits.specs.declared.Source.TheVariants.{Cooperative}
use Rattle.rules_theorems.specs.Rules.{allowed}
use Rattle.lent_file.specs.declared.LentAnswer.{LentAnswer}
use Rattle.base.specs.Refused.{refuse}

-- what is allowed of a file that is read into an array of so many entries: "Refusals: 1 at the new limit, 9 when the
-- array or the 512 is full"
abbrev pub allowed_into : ℕ → Limits
allowed_into len = record { bytes = (allowed Cooperative).bytes; herds = min len (allowed Cooperative).herds }

-- the refusal is answered with its record, and "after a refusal the whole array does" (stay as it was)
pub record Untouched (refusal : Refusal) (n : ℕ) (old : List Herd) (r : LentAnswer) (new : List Herd) : Type 0 where
  pub answer : r ≡ record { checked = refuse refusal n; count = 0 }
  pub array : new ≡ old

-- the herds are counted, and stand in front; "What a caller's array holds beyond the last herd stays as it was"
pub record InFront (hs old : List Herd) (r : LentAnswer) (new : List Herd) : Type 0 where
  pub answer : r ≡ record { checked = Accepted; count = length hs }
  pub array : new ≡ hs ++ drop (length hs) old

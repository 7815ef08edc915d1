-- A farm's record that is handed in as a slice of herds and a count: when each refusal applies, said of the slice and
-- the count and not of how they are checked, and which is the first. 02, W12: "9 when the array or the 512 is full,
-- also where a farm record is checked"; then herd by herd, as 01 has it. proofs/Refusals.antt shows that the calls give
-- exactly that one. To be believed.
use Rattle.std.specs.Prelude.{ℕ, ◌<◌, List, length, get_or, take}
use Rattle.farm.specs.declared.Herd.{Herd}
use Rattle.farm.specs.declared.Refusal.{Refusal}
use Rattle.farm.specs.declared.Refusal.TheVariants.{NoRoomForHerd}
use Rattle.farm.specs.Limits.{herds_most}
use Rattle.farm.specs.Herds.{no_herd}
use Rattle.farm.specs.Answers.{Accepted, Checked}
use Rattle.first_refusal.specs.First.{FirstOf}
use Rattle.checks.specs.Refusals.{Applies, Sooner}
use Rattle.base.specs.Refused.{refuse}

-- the count is beyond the slice, or beyond the herds that any farm may have
pub data Beyond (herds : List Herd) (count : ℕ) : Type 0 where
  the_slice : length herds < count → Beyond herds count
  the_most : herds_most < count → Beyond herds count

-- the refusal applies, at this place of the herds, from 0 on; 9 at the first
pub data AppliesIn (herds : List Herd) (count : ℕ) : ℕ → Refusal → Type 0 where
  no_room : Beyond herds count → AppliesIn herds count 0 NoRoomForHerd
  of_herd : {i : ℕ} {refusal : Refusal} → i < count → i < length herds
      → Applies (take i herds) (get_or herds i no_herd) refusal → AppliesIn herds count i refusal

-- the first refusal: it applies, and none that applies is sooner
pub record FirstIn (herds : List Herd) (count : ℕ) (refusal : Refusal) : Type 0 where
  pub place : ℕ
  pub is_first : FirstOf (AppliesIn herds count) Sooner place refusal

-- what the calls say: that none applies; or the first, with record 0
pub data GetsIn (herds : List Herd) (count : ℕ) : Checked → Type 0 where
  fine : ((place : ℕ) (refusal : Refusal) → AppliesIn herds count place refusal → ⊥) → GetsIn herds count Accepted
  gets_refusal : {refusal : Refusal} → FirstIn herds count refusal → GetsIn herds count (refuse refusal 0)

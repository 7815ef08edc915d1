-- The first refusal, of a file, of a log and of a record: over the refusals, when each applies and with which number,
-- and which of two is sooner. To be believed.
use Rattle.std.specs.Prelude.{ℕ}

-- it applies, and none that applies is sooner
pub record FirstOf {F : Type 0} (AppliesAt : ℕ → F → Type 0) (Sooner : ℕ → F → ℕ → F → Type 0) (n : ℕ) (refusal : F)
    : Type 0 where
  pub applies : AppliesAt n refusal
  pub none_sooner : (m : ℕ) (other : F) → AppliesAt m other → Sooner m other n refusal → ⊥

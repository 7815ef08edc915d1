-- 02, W14, of 2.34: where no less N and no less TAN is excreted, the yard emits no less ammonia; whatever the floor and
-- the free factor are. Assumes nothing.
use Prim.Native.Nat.{ℕ, ◌≤◌}
use Rattle.amounts.specs.Arithmetic.{cutting}
use Rattle.amounts.proofs.Amounts.{portion-grows}
use Rattle.kinds.specs.declared.Outdoor.{Outdoor}
use Rattle.yard.specs.Yard.{on_yard}

pub yard-grows : (o : Outdoor) (n more_n tan more_tan : ℕ) → n ≤ more_n → tan ≤ more_tan
    → (on_yard cutting o n tan).nh3_nyard ≤ (on_yard cutting o more_n more_tan).nh3_nyard
yard-grows o n more_n tan more_tan hn ht = search portion-grows

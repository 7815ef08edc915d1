-- 02, W14, of 2.22, 2.50 and 2.84: more animals, or more grams a head, excrete no less N and no less TAN.
-- Assumes nothing.
use Prim.Native.Nat.{ℕ, ◌≤◌}
use native.Mathlib.Nat.{mul-le-mul}
use Rattle.amounts.specs.Arithmetic.{cutting}
use Rattle.amounts.proofs.Amounts.{portion-grows}
use Rattle.excretion.specs.Excretion.{ExcretionIn, excreted}

-- no less N and no less TAN
pub record NoLessExcreted (e f : ExcretionIn cutting) : Type 0 where
  pub n : e.n_excretion ≤ f.n_excretion
  pub tan : e.tan_excretion ≤ f.tan_excretion

pub excretion-grows : (animals more grams richer fraction : ℕ) → animals ≤ more → grams ≤ richer
    → NoLessExcreted (excreted cutting animals grams fraction) (excreted cutting more richer fraction)
excretion-grows animals more grams richer fraction ha hg =
    record { n = search mul-le-mul; tan = search (portion-grows, mul-le-mul) }

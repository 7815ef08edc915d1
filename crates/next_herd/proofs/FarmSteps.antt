-- A herd that follows the one being read, from the calls that look at the others: each law in the form that a place of
-- src/lib.rt wants. Assumes nothing.
use Prim.Native.Nat.{ℕ, ◌+◌}
use mathlib.Core.Path.{◌≡◌, ap}
use lib.Dec.{leb}
use borrow.Author.Tests.{eq-eqb, ne_eqb}
use Rattle.next_herd.specs.Farms.{herds_so_far}

module _ (count first' : ℕ) where
  pub none-counted : first' ≡ 0 → count ≡ herds_so_far count first'
  unfolding herds_so_far
  none-counted e = simp (herds_so_far, eq-eqb first' 0 e)

  pub one-counted : (first' ≡ 0 → ⊥) → count + 1 ≡ herds_so_far count first'
  unfolding herds_so_far
  one-counted n = simp (herds_so_far, ne_eqb first' 0 n)

pub ruleset counted_steps = (none-counted, one-counted)

-- ---- whether there is room

pub full : (most : ℕ) {k n : ℕ} → k ≡ n → leb most k ≡ leb most n
full most e = ap (leb most) e

-- 16's test, total by total: each step in the form that a place of the loop wants; and what it says of every total.
-- Assumes nothing.
use Prim.Native.Nat.{ℕ, zero, suc, ◌+◌, ◌≤◌, ◌<◌}
use mathlib.Core.Path.{◌≡◌, sym, ◌∙◌}
use mathlib.Core.Bool.{Bool, true, false, ◌||◌}
use mathlib.Core.List.{List, [], ◌∷◌}
use native.Mathlib.Omega.{arith}
use lib.Dec.{ltb}
use lib.ListN.{length, drop}
use lib.IntN.{ℤ, pos, nat_abs}
use borrow.Author.Tests.{lt-ltb, le-ltb, ltb-false}
use Rattle.farm.proofs.Left.{left_at, left_end}
use Rattle.checks.proofs.Tests.{neither}
use Rattle.outputs.specs.declared.Totals.{Totals}
use Rattle.outputs.specs.Grams.{grams_at, GramsTo}
use Rattle.books.specs.Rules.{total_most, any_beyond, beyond}

-- ---- the loop: the totals from i on

module _ (g : List ℤ) (i : ℕ) (X : Bool) (inv : any_beyond (drop i g) ≡ X) where
  module _ (b : i < length g) (m : ℕ) (e : m ≡ nat_abs (grams_at g i)) where
    next : (ltb total_most m || any_beyond (drop (i + 1) g)) ≡ X
    next = rw e (rw (left_at g i (pos 0) b) at inv)

    pub one-beyond : total_most < m → true ≡ X
    one-beyond h = sym (rw (lt-ltb total_most m h)) ∙ next

    pub one-within : m ≤ total_most → any_beyond (drop (i + 1) g) ≡ X
    one-within h = sym (rw (le-ltb total_most m h)) ∙ next

  pub all-within : length g ≤ i → false ≡ X
  all-within h = rw (left_end g i h) at inv

-- ---- none is beyond it

none-beyond : (g : List ℤ) → any_beyond g ≡ false → (n : ℕ) → nat_abs (grams_at g n) ≤ total_most
none-beyond [] e n = omega arith
none-beyond (z ∷ g) e zero = ltb-false total_most (nat_abs z) (neither (ltb total_most (nat_abs z)) (any_beyond g) e).0
none-beyond (z ∷ g) e (suc n) = none-beyond g (neither (ltb total_most (nat_abs z)) (any_beyond g) e).1 n

pub within-most : (t : Totals) → beyond t ≡ false → GramsTo total_most t.grams
unfolding beyond
within-most t e = record { most = none-beyond t.grams e }

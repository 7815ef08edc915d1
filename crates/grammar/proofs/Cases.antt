-- Definitions by a test of two numbers, taken by the test's two cases.
-- Assumes nothing.
use Prim.Native.Nat.{ℕ}
use mathlib.Core.Bool.{Bool, true, false}
use mathlib.Core.Path.{◌≡◌, refl}
use lib.Dec.{eqb}
use borrow.Author.Tests.{eqb-true, eqb-false}
use Rattle.base.specs.Pick.{pick}

-- two that go by one test
pub by_tests : {A B : Type 0} (P : A → B → Type 0) (b k : ℕ) (x y : A) (x' y' : B)
    → (b ≡ k → P x x') → ((b ≡ k → ⊥) → P y y') → P (pick (eqb b k) x y) (pick (eqb b k) x' y')
by_tests P b k x y x' y' holds fails = go (eqb b k) refl
  where
    go : (t : Bool) → eqb b k ≡ t → P (pick t x y) (pick t x' y')
    go true e = holds (eqb-true b k e)
    go false e = fails (eqb-false b k e)

pub by_test : {A : Type 0} (P : A → Type 0) (b k : ℕ) (x y : A) → (b ≡ k → P x) → ((b ≡ k → ⊥) → P y)
    → P (pick (eqb b k) x y)
by_test P b k x y holds fails = by_tests (λ u _. P u) b k x y x y holds fails

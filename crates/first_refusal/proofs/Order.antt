-- There is one first refusal: of two that apply one is sooner, or they are one. Assumes nothing.
use Prim.Native.Nat.{ℕ, ◌<◌}
use mathlib.Core.Path.{◌≡◌, refl, subst}
use mathlib.Core.Bool.{Bool, true, false}
use native.Mathlib.Omega.{arith}
use lib.Dec.{ltb}
use borrow.Author.Tests.{ltb-true, ltb-false}
use Rattle.first_refusal.specs.First.{FirstOf}

-- two numbers
pub compare : {R : Type 0} (m n : ℕ) → (m < n → R) → (n < m → R) → (m ≡ n → R) → R
compare {R} m n less more same = go (ltb m n) (ltb n m) refl refl
  where
    go : (t u : Bool) → ltb m n ≡ t → ltb n m ≡ u → R
    go true u p q = less (ltb-true m n p)
    go false true p q = more (ltb-true n m q)
    go false false p q = let a = ltb-false m n p in let b = ltb-false n m q in same (omega arith)

pub data Order {F : Type 0} (Sooner : ℕ → F → ℕ → F → Type 0) (m : ℕ) (f : F) (n : ℕ) (g : F) : Type 0 where
  sooner : Sooner m f n g → Order Sooner m f n g
  later : Sooner n g m f → Order Sooner m f n g
  same : m ≡ n → f ≡ g → Order Sooner m f n g

-- by the number, and of one number by the turn
pub by_turn : {F : Type 0} (Sooner : ℕ → F → ℕ → F → Type 0) (m n : ℕ) (f g : F) (a b : ℕ) → (m < n → Sooner m f n g)
    → (n < m → Sooner n g m f) → (a < b → Sooner m f m g) → (b < a → Sooner m g m f) → (a ≡ b → f ≡ g)
    → Order Sooner m f n g
by_turn Sooner m n f g a b front back first second one =
    compare m n (λ l. sooner (front l)) (λ l. later (back l)) (λ e.
    compare a b (λ l. sooner (subst (λ (i : ℕ). Sooner m f i g) e (first l)))
    (λ l. later (subst (λ (i : ℕ). Sooner i g m f) e (second l))) (λ d. same e (one d)))

pub record One {F : Type 0} (m : ℕ) (f : F) (n : ℕ) (g : F) : Type 0 where
  pub at_record : m ≡ n
  pub refusal : f ≡ g

pub one-of-first : {F : Type 0} {AppliesAt : ℕ → F → Type 0} {Sooner : ℕ → F → ℕ → F → Type 0} {m n : ℕ} {f g : F}
    → (AppliesAt m f → AppliesAt n g → Order Sooner m f n g) → FirstOf AppliesAt Sooner m f
    → FirstOf AppliesAt Sooner n g → One m f n g
one-of-first {F} {AppliesAt} {Sooner} {m} {n} {f} {g} order a b = go (order a.applies b.applies)
  where
    go : Order Sooner m f n g → One m f n g
    go (sooner d) = absurd (b.none_sooner m f a.applies d)
    go (later d) = absurd (a.none_sooner n g b.applies d)
    go (same p q) = record { at_record = p; refusal = q }

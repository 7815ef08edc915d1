-- A table filled number by number, the loop that everything over the names is: what is stored so far, one more, and
-- all. Assumes nothing.
use Prim.Native.Nat.{ℕ, zero, suc, ◌+◌, ◌≤◌, ◌<◌}
use mathlib.Core.Path.{◌≡◌, refl, sym, ap, ◌∙◌}
use mathlib.Core.Bool.{Bool, true, false}
use mathlib.Core.List.{List}
use native.Mathlib.Nat.{add-zero, le_of_suc-le-suc}
use native.Mathlib.Omega.{arith}
use borrow.Author.Tests.{ltb-true, ltb-false}
use lib.Dec.{ltb}
use lib.ListN.{length, set}
use lib.Seq.{ext_get_or, get_or-set_same, get_or-set_other}
use lib.IntN.{ℤ, pos}
use Rattle.outputs.specs.Grams.{grams_at, by_number, rule_from}

-- the first i numbers have their grams
pub record Filled (f : ℕ → ℤ) (i : ℕ) (g : List ℤ) : Type 0 where
  pub filled : (n : ℕ) → n < i → grams_at g n ≡ f n

module _ (f : ℕ → ℤ) where
  pub fill_none : (g : List ℤ) → Filled f 0 g
  fill_none g = record { filled = λ n h. absurd (omega arith) }

  pub fill_one : {i : ℕ} {g : List ℤ} {x : ℤ} → Filled f i g → i < length g → x ≡ f i → Filled f (i + 1) (set g i x)
  fill_one {i} {g} {x} d h e = record { filled = λ n l. go n l (ltb n i) refl }
    where
      go : (n : ℕ) → n < i + 1 → (t : Bool) → ltb n i ≡ t → grams_at (set g i x) n ≡ f n
      go n l true b = let k = ltb-true n i b in get_or-set_other g i n x (pos 0) (λ q. omega arith) ∙ d.filled n k
      go n l false b =
          let k = ltb-false n i b in
          let q : n ≡ i = omega arith in rw (q, get_or-set_same g i x (pos 0) h) e

  length_from : (i k : ℕ) → length (rule_from i k f) ≡ k
  length_from i zero = refl
  length_from i (suc k) = ap suc (length_from (suc i) k)

  from_at : (i k n : ℕ) → n < k → grams_at (rule_from i k f) n ≡ f (i + n)
  from_at i zero n h = absurd (omega arith)
  from_at i (suc k) zero h = ap f (sym (add-zero i))
  from_at i (suc k) (suc n) h = from_at (suc i) k n (le_of_suc-le-suc h) ∙ ap f (omega arith)

  -- the grams of a number
  pub by-number-at : (k n : ℕ) → n < k → grams_at (by_number k f) n ≡ f n
  unfolding by_number
  by-number-at k n h = from_at 0 k n h ∙ ap f (omega arith)

  from_past : (i k n : ℕ) → k ≤ n → grams_at (rule_from i k f) n ≡ pos 0
  from_past i zero n h = refl
  from_past i (suc k) zero h = absurd (omega arith)
  from_past i (suc k) (suc n) h = from_past (suc i) k n (le_of_suc-le-suc h)

  -- past the last number there is nothing
  pub by-number-past : (k n : ℕ) → k ≤ n → grams_at (by_number k f) n ≡ pos 0
  unfolding by_number
  by-number-past k n h = from_past 0 k n h

  -- all numbers have their grams
  pub fill_all : (k : ℕ) {i : ℕ} {g : List ℤ} → Filled f i g → k ≤ i → length g ≡ k → g ≡ by_number k f
  unfolding by_number
  fill_all k {i} {g} d h l =
      ext_get_or (pos 0) g (rule_from 0 k f) (l ∙ sym (length_from 0 k))
      (λ n b. d.filled n (omega arith) ∙ sym (by-number-at k n (omega arith)))

-- two rules that agree on the numbers give one table
pub by-number-same : (f g : ℕ → ℤ) (k : ℕ) → ((n : ℕ) → n < k → f n ≡ g n) → by_number k f ≡ by_number k g
unfolding by_number
by-number-same f g k h =
    fill_all g k (record { filled = λ n l. by-number-at f k n l ∙ h n l }) (omega arith) (length_from f 0 k)

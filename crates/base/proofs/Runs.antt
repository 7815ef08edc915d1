-- A list of lists, kept as one table with starts: from one start to the next the table has the list of that place.
-- Assumes nothing.
use Prim.Native.Nat.{ℕ, zero, suc, ◌+◌, ◌-◌, ◌≤◌, ◌<◌}
use mathlib.Core.Path.{◌≡◌, refl, ap, ◌∙◌}
use mathlib.Core.Bool.{Bool}
use mathlib.Core.List.{List, [], ◌∷◌, ◌++◌, append_assoc}
use native.Mathlib.Nat.{le_of_suc-le-suc}
use native.Mathlib.Numerals.{add-one}
use native.Mathlib.Omega.{arith}
use lib.Dec.{T}
use lib.ListN.{length, get_or, take, drop, length-append}
use lib.Seq.{slice, take_at, drop_at}
use Rattle.base.proofs.Table.{both_left, both_right}
use Rattle.base.specs.Runs.{joined, starts, all}

-- l stands in the table from a to before e
pub record Run (table l : List ℕ) (a e : ℕ) : Type 0 where
  pub long : e ≡ a + length l
  pub inside : e ≤ length table
  -- as a loop over the places goes, and as a part of a slice
  pub is : slice a e table ≡ l
  pub part-is : take (e - a) (drop a table) ≡ l

first-start : (n : ℕ) (ls : List (List ℕ)) → get_or (starts n ls) 0 0 ≡ n
first-start n [] = refl
first-start n (l ∷ ls) = refl

run-first : (p l r : List ℕ) (n e : ℕ) → length p ≡ n → e ≡ n + length l → Run (p ++ (l ++ r)) l n e
run-first p l r n e hp he =
    let d : drop n (p ++ (l ++ r)) ≡ l ++ r = drop_at p (l ++ r) n hp in
    let t : take e ((p ++ l) ++ r) ≡ p ++ l = take_at (p ++ l) r e (omega (arith, length-append p l)) in
    record {
      long = he;
      inside = omega (arith, length-append p (l ++ r), length-append l r);
      is = rw (← append_assoc p l r, t) (drop_at p l n hp);
      part-is = rw d (take_at l r (e - n) (omega arith));
    }

run-from : (p : List ℕ) (n : ℕ) (ls : List (List ℕ)) (k : ℕ) → length p ≡ n → k < length ls
    → Run (p ++ joined ls) (get_or ls k []) (get_or (starts n ls) k 0) (get_or (starts n ls) (suc k) 0)
run-from p n [] k hp h = absurd (omega arith)
run-from p n (l ∷ ls) zero hp h = run-first p l (joined ls) n _ hp (first-start (n + length l) ls)
run-from p n (l ∷ ls) (suc k) hp h =
    rw (← append_assoc p l (joined ls))
    (run-from (p ++ l) (n + length l) ls k (length-append p l ∙ ap (λ (m : ℕ). m + length l) hp) (le_of_suc-le-suc h))

pub run_at : (ls : List (List ℕ)) (k : ℕ) → k < length ls
    → Run (joined ls) (get_or ls k []) (get_or (starts 0 ls) k 0) (get_or (starts 0 ls) (k + 1) 0)
run_at ls k h = rw add-one (run-from [] 0 ls k refl h)

-- ---- a test that all entries pass, one of them passes

pub all-at : {A : Type 0} (f : A → Bool) (xs : List A) → T (all f xs) → (k : ℕ) (d : A) → k < length xs
    → T (f (get_or xs k d))
all-at f [] t k d h = absurd (omega arith)
all-at f (x ∷ xs) t zero d h = both_left (f x) (all f xs) t
all-at f (x ∷ xs) t (suc k) d h = all-at f xs (both_right (f x) (all f xs) t) k d (le_of_suc-le-suc h)

-- past the last too, where the entry for want of one passes
pub all_get_d : {A : Type 0} (f : A → Bool) (xs : List A) → T (all f xs) → (d : A) → T (f d) → (k : ℕ)
    → T (f (get_or xs k d))
all_get_d f [] t d e k = e
all_get_d f (x ∷ xs) t d e zero = both_left (f x) (all f xs) t
all_get_d f (x ∷ xs) t d e (suc k) = all_get_d f xs (both_right (f x) (all f xs) t) d e k

-- Herds added up: a figure of the sum is the sum of the figures, for every number at once; so each total is 2.1's, and
-- the sums fit. Assumes nothing.
use Prim.Native.Nat.{ℕ, suc, ◌+◌, ◌≤◌, ◌<◌}
use mathlib.Core.Path.{◌≡◌, refl, sym, ap, ◌∙◌}
use mathlib.Core.Bool.{Bool, true, false}
use mathlib.Core.List.{List, [], ◌∷◌, map}
use native.Mathlib.Omega.{arith}
use borrow.Author.Tests.{ltb-true, ltb-false}
use lib.Dec.{ltb, T, ltb→lt}
use lib.ListN.{length, get_or}
use lib.IntN.{ℤ, pos, nat_abs, ◌+ℤ◌}
use Rattle.base.specs.Runs.{all}
use Rattle.base.specs.Reordered.{Reordered}
use Rattle.base.proofs.Table.{both_left, both_right}
use Rattle.base.proofs.Each.{each_of}
use Rattle.base.proofs.Runs.{all-at}
use Rattle.cut_division.specs.Total.{add_up, signed_total}
use Rattle.cut_division.proofs.Signed.{abs_add}
use Rattle.cut_division.proofs.Totals.{add_up-part, add_up-map, signed_total-same, signed_total_reordered}
use Rattle.outputs.specs.declared.Figures.{Figures}
use Rattle.outputs.specs.declared.Totals.{Totals}
use Rattle.outputs.specs.Names.{Row, rows, number, Total, totals, total_number, addends}
use Rattle.outputs.specs.Grams.{
  grams_at,
  plus_grams,
  zeros,
  summed,
  total_at,
  total_grams,
  farm_total,
  totals_of,
  GramsTo,
}
use Rattle.outputs.proofs.ByNumber.{by-number-at, by-number-past, by-number-same}

-- ---- every number

pub plus_at : (a b : List ℤ) (n : ℕ) → n < length rows → grams_at (plus_grams a b) n ≡ grams_at a n +ℤ grams_at b n
plus_at a b n h = by-number-at (λ n. grams_at a n +ℤ grams_at b n) (length rows) n h

pub summed_at : {A : Type 0} (g : A → Figures) (l : List A) (n : ℕ) → n < length rows
    → grams_at (summed g l) n ≡ signed_total (λ (f : Figures). grams_at f.grams n) (map g l)
summed_at g l n h =
    add_up-part plus_grams ◌+ℤ◌ (λ x. grams_at x n) (λ a b. plus_at a b n h) (λ a. (g a).grams) zeros l
    ∙ ap (λ z. add_up ◌+ℤ◌ (λ a. grams_at (g a).grams n) z l) (by-number-at (λ n. pos 0) (length rows) n h)
    ∙ sym (add_up-map ◌+ℤ◌ (λ (f : Figures). grams_at f.grams n) g (pos 0) l)

-- ---- every total

-- these numbers are names; every addend is, so none is misspelt
abbrev are_names : List ℕ → Bool
are_names ns = all (λ (n : ℕ). ltb n (length rows)) ns

pub addends-known : T (all are_names addends)
addends-known = tt

-- no text stands twice: the number of each row's text is the row's place, and so of each total's
abbrev places_from {ℓ} : {A : Type ℓ} → ℕ → List A → List ℕ
places_from i [] = []
places_from i (x ∷ xs) = i ∷ places_from (suc i) xs

pub numbers-are-places : map (λ (r : Row). number r.text) rows ≡ places_from 0 rows
numbers-are-places = refl

pub total-numbers-are-places : map (λ (t : Total). total_number t.text) totals ≡ places_from 0 totals
total-numbers-are-places = refl

-- two rules that agree on names agree on sums over names
module _ (f g : ℕ → ℤ) (agree : (n : ℕ) → n < length rows → f n ≡ g n) where
  same_sum : (ns : List ℕ) → T (are_names ns) → (t : ℤ) → add_up ◌+ℤ◌ f t ns ≡ add_up ◌+ℤ◌ g t ns
  same_sum [] k t = refl
  same_sum (n ∷ ns) k t =
      ap (λ z. add_up ◌+ℤ◌ f (t +ℤ z) ns)
      (agree n (ltb→lt n (length rows) (both_left (ltb n (length rows)) (are_names ns) k)))
      ∙ same_sum ns (both_right (ltb n (length rows)) (are_names ns) k) (t +ℤ g n)

module _ {A : Type 0} (g : A → Figures) (l : List A) where
  total-of-sum : (t : ℕ) → t < length totals → total_at (summed g l) t ≡ farm_total (map g l) t
  unfolding total_at farm_total
  total-of-sum t h =
      same_sum (grams_at (summed g l)) (λ n. signed_total (λ (f : Figures). grams_at f.grams n) (map g l))
      (summed_at g l)
      (get_or addends t []) (all-at are_names addends addends-known t [] h) (pos 0)

  pub totals-of-sum : (t : Totals) → t.grams ≡ total_grams (summed g l) → t ≡ totals_of (map g l)
  unfolding totals_of
  totals-of-sum t e = ap of_grams
      (e ∙ by-number-same (total_at (summed g l)) (farm_total (map g l)) (length totals) total-of-sum)
    where
      of_grams : List ℤ → Totals
      of_grams x = record { grams = x }

-- ---- the herds in another order

module _ {l m : List Figures} (o : Reordered l m) where
  total_in_any-order : (t : ℕ) → farm_total l t ≡ farm_total m t
  unfolding farm_total
  total_in_any-order t =
      signed_total-same (each_of (λ n. signed_total_reordered (λ (f : Figures). grams_at f.grams n) o)
      (get_or addends t []))

  pub totals_in-any-order : totals_of l ≡ totals_of m
  unfolding totals_of
  totals_in-any-order =
      ap of_grams (by-number-same (farm_total l) (farm_total m) (length totals) (λ t h. total_in_any-order t))
    where
      of_grams : List ℤ → Totals
      of_grams x = record { grams = x }

-- ---- bounds

pub plus_to : (k l : ℕ) (a b : List ℤ) → GramsTo k a → GramsTo l b → GramsTo (k + l) (plus_grams a b)
plus_to k l a b ta tb = record { most = λ n. go n (ltb n (length rows)) refl }
  where
    go : (n : ℕ) (t : Bool) → ltb n (length rows) ≡ t → nat_abs (grams_at (plus_grams a b) n) ≤ k + l
    go n true e = rw (plus_at a b n (ltb-true n (length rows) e))
        (omega (arith, ta.most n, tb.most n, abs_add (grams_at a n) (grams_at b n)))
    go n false e = rw (by-number-past (λ n. grams_at a n +ℤ grams_at b n) (length rows) n (ltb-false n (length rows) e))
        (omega arith)

pub zeros-to : (k : ℕ) → GramsTo k zeros
zeros-to k = record { most = λ n. go n (ltb n (length rows)) refl }
  where
    go : (n : ℕ) (t : Bool) → ltb n (length rows) ≡ t → nat_abs (grams_at zeros n) ≤ k
    go n true e = rw (by-number-at (λ n. pos 0) (length rows) n (ltb-true n (length rows) e)) (omega arith)
    go n false e = rw (by-number-past (λ n. pos 0) (length rows) n (ltb-false n (length rows) e)) (omega arith)

pub widen : (k m : ℕ) {g : List ℤ} → GramsTo k g → k ≤ m → GramsTo m g
widen k m t h = record { most = λ n. omega (arith, t.most n) }

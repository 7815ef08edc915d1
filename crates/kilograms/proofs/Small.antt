-- A farm's totals are small where the herds' figures are: a total has at most three addends. Assumes nothing.
use Prim.Native.Nat.{ℕ, ◌+◌, ◌*◌, ◌≤◌, ◌<◌}
use mathlib.Core.Path.{◌≡◌, refl}
use mathlib.Core.Bool.{Bool, true, false}
use mathlib.Core.List.{List, []}
use native.Mathlib.Nat.{le_trans, mul-le-mul_right}
use native.Mathlib.Omega.{arith}
use borrow.Author.Tests.{ltb-true, ltb-false}
use lib.Dec.{T, leb, ltb, leb→le}
use lib.ListN.{length, get_or}
use lib.IntN.{ℤ, pos, nat_abs, ◌+ℤ◌}
use Rattle.base.specs.Each.{Each, none, more}
use Rattle.base.specs.Runs.{all}
use Rattle.base.proofs.Each.{each_of, each_map}
use Rattle.base.proofs.Runs.{all-at}
use Rattle.cut_division.specs.Total.{add_up, signed_total}
use Rattle.cut_division.proofs.Signed.{abs_add}
use Rattle.outputs.specs.declared.Figures.{Figures}
use Rattle.outputs.specs.Names.{totals, addends}
use Rattle.outputs.specs.Grams.{grams_at, farm_total, totals_of, GramsTo}
use Rattle.outputs.proofs.ByNumber.{by-number-at, by-number-past}

-- ---- sums

module _ {A : Type 0} (f : A → ℤ) (k : ℕ) where
  sum-le : (z : ℤ) {l : List A} → Each (λ a. nat_abs (f a) ≤ k) l
      → nat_abs (add_up ◌+ℤ◌ f z l) ≤ nat_abs z + length l * k
  sum-le z none = omega arith
  sum-le z (more {a} p ps) = omega (arith, p, abs_add z (f a), sum-le (z +ℤ f a) ps)

  total-le : {l : List A} → Each (λ a. nat_abs (f a) ≤ k) l → nat_abs (signed_total f l) ≤ length l * k
  total-le e = omega (arith, sum-le (pos 0) e)

-- ---- totals

abbrev pub most_addends : ℕ
most_addends = 3

abbrev is_few : List ℕ → Bool
is_few ns = leb (length ns) most_addends

addends-few : T (all is_few addends)
addends-few = tt

module _ (l : List Figures) (k : ℕ) (small : Each (λ f. GramsTo k f.grams) l) where
  -- a figure, summed over the herds
  herds-le : (n : ℕ) → nat_abs (signed_total (λ (f : Figures). grams_at f.grams n) l) ≤ length l * k
  herds-le n = total-le (λ (f : Figures). grams_at f.grams n) k (each_map (λ f to. to.most n) small)

  total-small : (t : ℕ) → t < length totals → nat_abs (farm_total l t) ≤ most_addends * (length l * k)
  unfolding farm_total
  total-small t h =
      let ns = get_or addends t [] in
      let few = leb→le (length ns) most_addends (all-at is_few addends addends-few t [] h) in
      le_trans
      (total-le (λ n. signed_total (λ (f : Figures). grams_at f.grams n) l) (length l * k) (each_of herds-le ns))
      (mul-le-mul_right (length l * k) few)

  pub totals-small : GramsTo (most_addends * (length l * k)) (totals_of l).grams
  unfolding totals_of
  totals-small = record { most = λ t. go t (ltb t (length totals)) refl }
    where
      go : (t : ℕ) (b : Bool) → ltb t (length totals) ≡ b
          → nat_abs (grams_at (totals_of l).grams t) ≤ most_addends * (length l * k)
      go t true e =
          let h = ltb-true t (length totals) e in
          rw (by-number-at (farm_total l) (length totals) t h) (total-small t h)
      go t false e = rw (by-number-past (farm_total l) (length totals) t (ltb-false t (length totals) e)) (omega arith)

-- Demand 3 for a farm: each total of herds that pass the checks lies within what is promised of each herd's part in it,
-- added up; and so within what is promised of the total, times the number of herds. A total brings in each herd's own
-- errors. Assumes nothing.
use Prim.Native.Nat.{ℕ, ◌+◌, ◌*◌, ◌≤◌, zero-le}
use Prim.Native.String.{String}
use mathlib.Core.Path.{◌≡◌, refl, sym, ap, ◌∙◌}
use mathlib.Core.Bool.{Bool, true, false}
use mathlib.Core.List.{List, [], ◌∷◌, map, map-map}
use borrow.Author.Tests.{ltb-true, ltb-false}
use lib.Dec.{ltb}
use lib.ListN.{length, length-map, get_or, get_or-eq_default}
use lib.IntN.{ℤ, pos, ◌+ℤ◌}
use Rattle.base.specs.Each.{Each, none, more}
use Rattle.base.proofs.Each.{each_of, each_map}
use Rattle.cut_division.specs.Frac.{Frac, ◌⊕◌, Within}
use Rattle.cut_division.specs.Total.{add_up, signed_total, exact_total}
use Rattle.cut_division.proofs.Near.{near-whole, near_weaken, within_weaken}
use Rattle.cut_division.proofs.Totals.{
  add_up-map,
  TotalNear,
  near-signed-total,
  near-total-add,
  total-most,
  total-within,
}
use Rattle.kinds.specs.declared.Inputs.{Inputs}
use Rattle.kinds.specs.Sound.{Sound}
use Rattle.outputs.specs.declared.Figures.{Figures}
use Rattle.outputs.specs.declared.Totals.{Totals}
use Rattle.outputs.specs.Names.{totals, total_number, addends}
use Rattle.outputs.specs.Grams.{grams_at, total, farm_total, totals_of}
use Rattle.outputs.proofs.ByNumber.{by-number-at, by-number-past}
use Rattle.herd.specs.Herd.{figures_of}
use Rattle.nearness_theorems.specs.Promised.{promised_of_total, promised_in_total, promised_by_herd}
use Rattle.nearness_theorems.specs.Errors.{Errors, errors_at, total_errors}
use Rattle.nearness_theorems.specs.Exact.{exact_at, exact_of_total}
use Rattle.nearness_theorems.proofs.Table.{kept_in_total, in_total-le}
use Rattle.nearness_theorems.proofs.Herd.{near-herd}

-- as near as each herd's errors together allow
abbrev pub TotalNearBy : (Inputs → Errors) → List Inputs → ℤ → Frac → Type 0
TotalNearBy e l x q = TotalNear (λ i. (e i).below) (λ i. (e i).above) l x q

-- a figure summed over the herds, and exactly
abbrev sum : List Figures → ℕ → ℤ
sum l n = signed_total (λ (f : Figures). grams_at f.grams n) l

abbrev exact_sum : List Inputs → ℕ → Frac
exact_sum l n = exact_total (λ i. exact_at i n) l

module _ (l : List Inputs) (s : Each Sound l) where
  near-sum : (n : ℕ) → TotalNearBy (λ i. errors_at i n) l (sum (map figures_of l) n) (exact_sum l n)
  near-sum n =
      rw (add_up-map ◌+ℤ◌ (λ (f : Figures). grams_at f.grams n) figures_of (pos 0) l)
      (near-signed-total _ _ (λ i. grams_at (figures_of i).grams n) (λ i. exact_at i n)
      (each_map (λ i h. near-herd i h n) s))

  -- and then over the addends that are left
  near-from : {lo hi : Inputs → ℕ} {x : ℤ} {q : Frac} → TotalNear lo hi l x q → (ns : List ℕ)
      → TotalNear
      (λ i. add_up ◌+◌ (λ n. (errors_at i n).below) (lo i) ns)
      (λ i. add_up ◌+◌ (λ n. (errors_at i n).above) (hi i) ns)
      l (add_up ◌+ℤ◌ (sum (map figures_of l)) x ns) (add_up ◌⊕◌ (exact_sum l) q ns)
  near-from near [] = near
  near-from {lo = lo} {hi = hi} {x = x} {q = q} near (n ∷ ns) =
      near-from
      {lo = λ i. lo i + (errors_at i n).below} {hi = λ i. hi i + (errors_at i n).above}
      {x = x +ℤ sum (map figures_of l) n} {q = q ⊕ exact_sum l n}
      (near-total-add near (near-sum n)) ns

  pub near-farm : (t : ℕ) → TotalNearBy (λ i. total_errors i t) l (farm_total (map figures_of l) t) (exact_of_total l t)
  unfolding total_errors farm_total exact_of_total
  near-farm t = near-from (record { near = near_weaken zero-le zero-le (near-whole 0) }) (get_or addends t [])

pub within-herds : (l : List Inputs) → Each Sound l → (t : ℕ)
    → Within (promised_by_herd l t) (farm_total (map figures_of l) t) (exact_of_total l t)
within-herds l s t =
    total-within (λ i. promised_in_total i t)
    (each_of (λ i. (kept_in_total i t).kept-below) l) (each_of (λ i. (kept_in_total i t).kept_above) l)
    (near-farm l s t)

-- which is no more than the total has for each of its herds
by-herd-le : (l : List Inputs) (t : ℕ) → promised_by_herd l t ≤ promised_of_total t * length l
by-herd-le l t = total-most (λ i. promised_in_total i t) (promised_of_total t) (each_of (λ i. in_total-le i t) l)

pub within_farm : (l : List Inputs) → Each Sound l → (t : ℕ)
    → Within (promised_of_total t * length l) (farm_total (map figures_of l) t) (exact_of_total l t)
within_farm l s t = within_weaken (by-herd-le l t) (within-herds l s t)

-- ---- as the calls have them: the totals of records, each with its inputs

totals-at : (l : List Figures) (t : ℕ) → grams_at (totals_of l).grams t ≡ farm_total l t
unfolding totals_of farm_total
totals-at l t = go (ltb t (length totals)) refl
  where
    go : (b : Bool) → ltb t (length totals) ≡ b → grams_at (totals_of l).grams t ≡ farm_total l t
    go true e = by-number-at (farm_total l) (length totals) t (ltb-true t (length totals) e)
    go false e =
        let past = ltb-false t (length totals) e in
        by-number-past (farm_total l) (length totals) t past
        ∙ sym (ap (signed_total (sum l)) (get_or-eq_default addends [] past))

module _ {A : Type 0} (inputs : A → Inputs) where
  abbrev pub totals_from : List A → Totals
  totals_from l = totals_of (map (λ a. figures_of (inputs a)) l)

  all_sound : {l : List A} → Each (λ a. Sound (inputs a)) l → Each Sound (map inputs l)
  all_sound none = none
  all_sound (more s ss) = more s (all_sound ss)

  pub within-totals : (l : List A) → Each (λ a. Sound (inputs a)) l → (t : ℕ)
      → Within (promised_by_herd (map inputs l) t) (grams_at (totals_from l).grams t) (exact_of_total (map inputs l) t)
  within-totals l s t =
      rw (totals-at (map (λ a. figures_of (inputs a)) l) t, ← map-map figures_of inputs l)
      (within-herds (map inputs l) (all_sound s) t)

  pub by-herd-most : (l : List A) (t : ℕ) → promised_by_herd (map inputs l) t ≤ promised_of_total t * length l
  by-herd-most l t = rw (← length-map l inputs) (by-herd-le (map inputs l) t)

  -- under its name
  pub within-total : (l : List A) → Each (λ a. Sound (inputs a)) l → (t : String)
      → Within (promised_of_total (total_number t) * length l) (total t (totals_from l))
      (exact_of_total (map inputs l) (total_number t))
  within-total l s t =
      within_weaken (by-herd-most l (total_number t)) (within-totals l s (total_number t))

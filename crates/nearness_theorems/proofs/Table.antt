-- The tables of errors and of bounds, by tests that compute: the errors of each figure, and of what a herd brings into
-- each total, keep what is promised of it; no herd is promised more than the total for each of its herds; and every
-- entry is of a name. No kind of herd has both a yard and a housing whose NH3 is counted, so NH3 from three sources
-- keeps it too. Assumes nothing.
use Prim.Native.Nat.{ℕ, zero, suc, ◌*◌, ◌≤◌}
use Prim.Native.String.{String}
use mathlib.Core.Bool.{Bool, true, false, ◌&&◌}
use mathlib.Core.List.{List, [], ◌∷◌}
use lib.Dec.{T, leb, leb→le}
use lib.ListN.{get_or}
use lib.Text.{eqt}
use Rattle.base.specs.Pick.{pick}
use Rattle.base.specs.Runs.{all}
use Rattle.base.proofs.Table.{both_left, both_right}
use Rattle.base.proofs.Runs.{all_get_d}
use Rattle.kinds.specs.declared.Inputs.{Inputs}
use Rattle.kinds.specs.declared.Inputs.TheVariants as kinds
use Rattle.outputs.specs.Names.{texts, total_texts, addends}
use Rattle.nearness_theorems.specs.ByName.{Entry, said_of}
use Rattle.nearness_theorems.specs.Promised.{
  promised,
  widened,
  widened_totals,
  promised_at,
  promised_of_total,
  promised_together,
  promised_in_total,
}
use Rattle.nearness_theorems.specs.Errors.{
  millionths,
  Errors,
  exactly,
  errors_of,
  errors_at,
  summed_errors,
  total_errors,
}

-- ---- errors keep bounds

-- neither error is more than so many grams
pub record Kept (grams : ℕ) (e : Errors) : Type 0 where
  pub kept-below : e.below ≤ grams * millionths
  pub kept_above : e.above ≤ grams * millionths

abbrev keeps : ℕ → Errors → Bool
keeps grams e = leb e.below (grams * millionths) && leb e.above (grams * millionths)

is-kept : (grams : ℕ) (e : Errors) → T (keeps grams e) → Kept grams e
is-kept grams e t =
    let below = leb e.below (grams * millionths) in
    let above = leb e.above (grams * millionths) in
    record { kept-below = leb→le _ _ (both_left below above t); kept_above = leb→le _ _ (both_right below above t) }

-- each of a list fits the bound that stands in its place
module _ {X : Type 0} (fits : ℕ → X → Bool) where
  abbrev fit : List ℕ → List X → Bool
  fit [] [] = true
  fit [] (x ∷ xs) = false
  fit (b ∷ bs) [] = false
  fit (b ∷ bs) (x ∷ xs) = fits b x && fit bs xs

  -- and past the last, what is promised of the others
  fit_at : (bs : List ℕ) (xs : List X) → T (fit bs xs) → (d : X) → T (fits promised d) → (n : ℕ)
      → T (fits (get_or bs n promised) (get_or xs n d))
  fit_at [] [] t d k n = k
  fit_at [] (x ∷ xs) t d k n = absurd t
  fit_at (b ∷ bs) [] t d k n = absurd t
  fit_at (b ∷ bs) (x ∷ xs) t d k zero = both_left (fits b x) (fit bs xs) t
  fit_at (b ∷ bs) (x ∷ xs) t d k (suc n) = fit_at bs xs (both_right (fits b x) (fit bs xs) t) d k n

abbrev bounds : Inputs → List ℕ
bounds i = said_of promised (widened i) texts

abbrev errors : Inputs → List Errors
errors i = said_of exactly (errors_of i) texts

abbrev total_bounds : List ℕ
total_bounds = said_of promised widened_totals total_texts

figures-keep : (i : Inputs) → T (fit keeps (bounds i) (errors i))
figures-keep (kinds.Roughage r) = tt
figures-keep (kinds.Cattle c) = tt
figures-keep (kinds.Pigs p) = tt

-- a figure's errors keep what is promised of it
pub promise_kept : (i : Inputs) (n : ℕ) → Kept (promised_at i n) (errors_at i n)
unfolding promised_at errors_at
promise_kept i n = is-kept _ _ (fit_at keeps (bounds i) (errors i) (figures-keep i) exactly tt n)

-- ---- totals

-- the errors of these figures of a herd together keep the widest of their bounds
abbrev keep_together : Inputs → List ℕ → Bool
keep_together i ns = keeps (promised_together i ns) (summed_errors i ns)

totals-keep : (i : Inputs) → T (all (keep_together i) addends)
unfolding promised_at errors_at
totals-keep (kinds.Roughage r) = tt
totals-keep (kinds.Cattle c) = tt
totals-keep (kinds.Pigs p) = tt

-- what a herd brings into a total keeps what is promised of that
pub kept_in_total : (i : Inputs) (t : ℕ) → Kept (promised_in_total i t) (total_errors i t)
unfolding promised_in_total total_errors
kept_in_total i t = is-kept _ _ (all_get_d (keep_together i) addends (totals-keep i) [] tt t)

-- and no kind of herd is promised more than the total for each of its herds
abbrev is_most : Inputs → ℕ → List ℕ → Bool
is_most i grams ns = leb (promised_together i ns) grams

totals-most : (i : Inputs) → T (fit (is_most i) total_bounds addends)
unfolding promised_at
totals-most (kinds.Roughage r) = tt
totals-most (kinds.Cattle c) = tt
totals-most (kinds.Pigs p) = tt

pub in_total-le : (i : Inputs) (t : ℕ) → promised_in_total i t ≤ promised_of_total t
unfolding promised_in_total promised_of_total
in_total-le i t = leb→le _ _ (fit_at (is_most i) total_bounds addends (totals-most i) [] tt t)

-- ---- every entry is of a name

-- each entry is of one of these names, in their order: so none is misspelt, and none stands twice
abbrev named : {X : Type 0} → List String → List (Entry X) → Bool
named [] [] = true
named [] (e ∷ es) = false
named (t ∷ names) [] = true
named (t ∷ names) (e ∷ es) = pick (eqt t e.name) (named names es) (named names (e ∷ es))

pub entries-named : (i : Inputs) → T (named texts (errors_of i) && named texts (widened i))
entries-named (kinds.Roughage r) = tt
entries-named (kinds.Cattle c) = tt
entries-named (kinds.Pigs p) = tt

pub total-bounds-named : T (named total_texts widened_totals)
total-bounds-named = tt

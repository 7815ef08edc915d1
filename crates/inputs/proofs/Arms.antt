-- The code's data against the definitions: what an arm of a `match` on a slot has is what the list has there. Assumes
-- nothing.
use Prim.Native.Nat.{ℕ, zero, suc, ◌+◌, ◌-◌, ◌≤◌}
use mathlib.Core.Path.{◌≡◌, refl, sym, ap, ◌∙◌}
use mathlib.Core.List.{List, [], ◌∷◌, map}
use native.Mathlib.Omega.{arith}
use lib.ListN.{length, get_or, drop}
use Rattle.inputs.specs.declared.Kind.{Kind}
use Rattle.inputs.specs.declared.Kind.TheVariants.{Cattle, DairyCow}
use Rattle.inputs.specs.declared.Input.{Input}
use Rattle.inputs.specs.Inputs.{Row, rows_of, count_of, last_of, row_at, form_of}
use Rattle.inputs.specs.Numbered.{numbered}

-- the number is none of those below i
abbrev pub NoneOf : ℕ → ℕ → Type 0
NoneOf zero n = Unit
NoneOf (suc i) n = NoneOf i n × (n ≡ i → ⊥)

pub none_below : (i n : ℕ) → NoneOf i n → i ≤ n
none_below zero n o = omega arith
none_below (suc i) n o = omega (arith, none_below i n o.0, o.1)

-- ---- the arms of a kind

module _ (k : Kind) where
  pub numbered-at : {slot i : ℕ} {r : Input} → slot ≡ i → r ≡ numbered (row_at k i) → r ≡ numbered (row_at k slot)
  numbered-at e h = rw e h

  get_or-last : (rows : List Row) (slot : ℕ) → length rows ≤ slot + 1 → get_or rows slot (last_of rows) ≡ last_of rows
  get_or-last [] zero h = refl
  get_or-last [] (suc slot) h = refl
  get_or-last (row ∷ []) zero h = refl
  get_or-last (row ∷ []) (suc slot) h = refl
  get_or-last (row ∷ next ∷ rows) zero h = absurd (omega arith)
  get_or-last (row ∷ next ∷ rows) (suc slot) h = get_or-last (next ∷ rows) slot (omega arith)

  -- the last arm
  pub numbered-last : (slot : ℕ) {r : Input} → NoneOf (count_of k - 1) slot → r ≡ numbered (last_of (rows_of k))
      → r ≡ numbered (row_at k slot)
  numbered-last slot o h =
      let past = none_below (count_of k - 1) slot o in
      h ∙ ap numbered (sym (get_or-last (rows_of k) slot (omega arith)))

-- but for TAN, the inputs of dairy cows have the names and forms of those of other cattle
numbered-get_or : (rows : List Row) (slot : ℕ) (d : Row)
    → numbered (get_or rows slot d) ≡ get_or (map numbered rows) slot (numbered d)
numbered-get_or [] slot d = refl
numbered-get_or (row ∷ rows) zero d = refl
numbered-get_or (row ∷ rows) (suc slot) d = numbered-get_or rows slot d

alike : (slot : ℕ) → (slot ≡ 2 → ⊥) → numbered (row_at Cattle slot) ≡ numbered (row_at DairyCow slot)
alike zero h = refl
alike (suc zero) h = refl
alike (suc (suc zero)) h = absurd (h refl)
alike (suc (suc (suc more))) h =
    numbered-get_or (drop 3 (rows_of Cattle)) more (last_of (rows_of Cattle))
    ∙ sym (numbered-get_or (drop 3 (rows_of DairyCow)) more (last_of (rows_of DairyCow)))

pub as-other-cattle : (slot : ℕ) {r : Input} → (slot ≡ 2 → ⊥) → r ≡ numbered (row_at Cattle slot)
    → r ≡ numbered (row_at DairyCow slot)
as-other-cattle slot h e = e ∙ alike slot h

-- ---- of a kind

module _ (kind : Kind) (slot : ℕ) {r : Input} where
  pub numbered_in : {k : Kind} → kind ≡ k → r ≡ numbered (row_at k slot) → r ≡ numbered (row_at kind slot)
  numbered_in e h = rw e h

  pub form_in : r ≡ numbered (row_at kind slot) → r.1 ≡ form_of kind slot
  unfolding form_of
  form_in h = ap (λ (x : Input). x.1) h

-- The rule of the table of k: one test of a whole table, and that a table which passes it gives k at each entry.
-- Assumes nothing.
use Prim.Native.Nat.{ℕ, ◌≤◌, ◌<◌, min}
use mathlib.Core.Bool.{Bool, true, false}
use mathlib.Core.List.{List}
use mathlib.Core.Path.{◌≡◌, refl, ap, ◌∙◌}
use native.Mathlib.Nat.{le_refl}
use native.Mathlib.Omega.{arith}
use lib.Dec.{T, leb, eqb, eqb→eq}
use lib.ListN.{length, get_or}
use borrow.Author.Tests.{leb-true, leb-false}
use Rattle.base.specs.Pick.{pick}
use Rattle.base.proofs.Table.{both, both_left, both_right, every, every-at}
use Rattle.tables.specs.Growth.{k_at, within_day, k_of}

pick-le : (t : ℕ) (b : Bool) → leb t 240 ≡ b → pick b t 240 ≤ 240
pick-le t true e = leb-true t 240 e
pick-le t false e = le_refl 240

pub within_day-le : (t : ℕ) → within_day t ≤ 240
unfolding within_day
within_day-le t = pick-le t (leb t 240) refl

pub ruleset within_steps = (within_day-le)

pub within_day_is : (t : ℕ) → min t 240 ≡ within_day t
unfolding within_day
within_day_is t = go (leb t 240) refl
  where
    go : (b : Bool) → leb t 240 ≡ b → min t 240 ≡ pick b t 240
    go true e = omega (arith, leb-true t 240 e)
    go false e = omega (arith, leb-false t 240 e)

unfoldable pub right : ℕ → ℕ → Bool
right t k = eqb k (k_at t)

-- 241 entries, and each is k at its place
unfoldable pub table-right : List ℕ → Bool
table-right ks = both (eqb (length ks) 241) (every right 0 ks)

pub entry : (ks : List ℕ) (tenths t : ℕ) → t ≡ within_day tenths → T (table-right ks) → get_or ks t 0 ≡ k_of tenths
unfolding right table-right k_of
entry ks tenths t e h =
    let l : length ks ≡ 241 = eqb→eq (length ks) 241 (both_left (eqb (length ks) 241) (every right 0 ks) h) in
    let b : t < length ks = omega (arith, within_day-le tenths) in
    eqb→eq (get_or ks t 0) (k_at t) (every-at right ks (both_right (eqb (length ks) 241) (every right 0 ks) h) t b)
    ∙ ap k_at e

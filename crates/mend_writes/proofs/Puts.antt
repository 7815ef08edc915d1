-- One change put into the list, where there is one: what is written, and that there is room.
-- Assumes nothing.
use Prim.Native.Nat.{ℕ, ◌+◌, ◌≤◌}
use mathlib.Core.Path.{◌≡◌, refl}
use mathlib.Core.Bool.{Bool, true, false}
use mathlib.Core.List.{List, [], ◌∷◌}
use native.Mathlib.Numerals.{add-one}
use native.Mathlib.Omega.{arith}
use lib.ListN.{length, set}
use Rattle.base.specs.Wrote.{Wrote}
use Rattle.spreadsheet.specs.Mended.{entries, change_at, mark_change}

two-put : (l : List ℕ) (at x y : ℕ) → Wrote l at (x ∷ y ∷ []) (set (set l at x) (at + 1) y) (at + 2)
two-put l at x y = record { bytes = rw add-one; past = refl }

none-put : (l : List ℕ) (at : ℕ) → Wrote l at [] l at
none-put l at = record { bytes = refl; past = omega arith }

-- ---- what is written

module _ (l : List ℕ) (at b : ℕ) (t : Bool) where
  pub change_put : t ≡ true → Wrote l at (entries (change_at t b)) (set (set l at 2) (at + 1) b) (at + 2)
  change_put e = rw e (two-put l at 2 b)

  pub no_change : t ≡ false → Wrote l at (entries (change_at t b)) l at
  no_change e = rw e (none-put l at)

module _ (l : List ℕ) (t : Bool) where
  pub mark-put : t ≡ true → Wrote l 0 (entries (mark_change t)) (set (set l 0 1) 1 0) 2
  mark-put e = rw e (two-put l 0 1 0)

  pub no_mark : t ≡ false → Wrote l 0 (entries (mark_change t)) l 0
  no_mark e = rw e (none-put l 0)

pub ruleset put_steps = (change_put, no_change, mark-put, no_mark)

-- ---- the room that is asked for, in numbers

module _ (n at b : ℕ) (t : Bool) where
  pub change_fits : t ≡ true → at + length (entries (change_at t b)) ≤ n → at + 2 ≤ n
  change_fits e h = rw e at h

pub mark-fits : (n : ℕ) (t : Bool) → t ≡ true → length (entries (mark_change t)) ≤ n → 2 ≤ n
mark-fits n t e h = rw e at h

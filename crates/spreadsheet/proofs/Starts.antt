-- Where the text begins, and how many changes there are. Assumes nothing.
use Prim.Native.Nat.{ℕ, ◌+◌, ◌-◌, ◌≤◌}
use mathlib.Core.Path.{◌≡◌, sym, ap}
use mathlib.Core.Bool.{Bool, true, false}
use mathlib.Core.List.{List, [], ◌++◌}
use native.Mathlib.Omega.{arith}
use lib.ListN.{length, take, drop, length-append, length-drop}
use Rattle.base.specs.Pick.{pick}
use Rattle.spreadsheet.specs.Faults.{mark, marked}
use Rattle.spreadsheet.specs.Mended.{changes_from, text_start, mark_change, changes_of}
use Rattle.spreadsheet.specs.Passed.{passed_of}
use Rattle.spreadsheet.proofs.Marks.{marked-take, marked-split}
use Rattle.spreadsheet.proofs.Lengths.{changes-few}

module _ (s : List ℕ) (m : Bool) (em : m ≡ marked s) (f : ℕ) (ef : f ≡ text_start m) where
  pub start-inside : f ≤ length s
  start-inside = go m em ef
    where
      go : (m : Bool) → m ≡ marked s → f ≡ text_start m → f ≤ length s
      go true e d = omega (arith, ap length (marked-split s (sym e)), length-append mark (drop 3 s))
      go false e d = omega arith

  pub start-passed : passed_of (take f s) ≡ passed_of []
  start-passed = go m em ef
    where
      go : (m : Bool) → m ≡ marked s → f ≡ text_start m → passed_of (take f s) ≡ passed_of []
      go true e d = rw (d, marked-take s (sym e))
      go false e d = rw d

  module _ (n : ℕ) (en : n ≡ length (changes_from (take f s) (drop f s))) where
    pub crs_few : n ≤ length s - f
    crs_few = omega (arith, en, changes-few (take f s) (drop f s), length-drop f s)

    pub changes-are : mark_change m ++ changes_from (take f s) (drop f s) ≡ changes_of s
    unfolding changes_of
    changes-are = rw (ef, em)

    module _ (k : ℕ) (ek : k ≡ pick m 1 0) where
      pub change_many : k + n ≡ length (changes_of s)
      change_many =
          omega (
            arith,
            en,
            one m k ek,
            ap length changes-are,
            length-append (mark_change m)
                (changes_from (take f s) (drop f s)),
          )
        where
          one : (m : Bool) (k : ℕ) → k ≡ pick m 1 0 → k ≡ length (mark_change m)
          one true k e = e
          one false k e = e

      -- no more changes than bytes, since the mark has three
      pub changes-fit : k + n ≤ length s
      changes-fit = omega (arith, crs_few, start-inside, marks m f k ef ek)
        where
          marks : (m : Bool) (f k : ℕ) → f ≡ text_start m → k ≡ pick m 1 0 → k ≤ f
          marks true f k e d = omega arith
          marks false f k e d = omega arith

pub ruleset start_steps = (start-inside, start-passed, crs_few, change_many)

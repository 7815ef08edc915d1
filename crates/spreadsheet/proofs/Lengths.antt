-- How long the mended text and the list of changes are. Assumes nothing.
use Prim.Native.Nat.{ℕ, suc, ◌+◌, ◌*◌, ◌≤◌}
use mathlib.Core.Path.{◌≡◌, refl}
use mathlib.Core.Bool.{Bool, true, false}
use mathlib.Core.List.{List, [], ◌∷◌, ◌++◌}
use native.Mathlib.Omega.{arith}
use lib.ListN.{length}
use Rattle.spreadsheet.specs.Faults.{bare}
use Rattle.spreadsheet.specs.Mended.{Change, entries, mended_byte, change_at, mended_from, changes_from}

pub entries-length : (cs : List Change) → length (entries cs) ≡ 2 * length cs
entries-length [] = refl
entries-length (c ∷ cs) = let e = entries-length cs in omega arith

pub entries-append : (cs ds : List Change) → entries (cs ++ ds) ≡ entries cs ++ entries ds
entries-append [] ds = refl
entries-append (c ∷ cs) ds = rw (entries-append cs ds)

-- a CR more for each change
pub mended_length : (before rest : List ℕ)
    → length (mended_from before rest) ≡ length rest + length (changes_from before rest)
unfolding mended_from changes_from
mended_length before [] = refl
mended_length before (b ∷ rest) =
    go (bare before b) (mended_from (before ++ (b ∷ [])) rest) (changes_from (before ++ (b ∷ [])) rest)
    (mended_length (before ++ (b ∷ [])) rest)
  where
    go : (t : Bool) (m : List ℕ) (cs : List Change) → length m ≡ length rest + length cs
        → length (mended_byte t b ++ m) ≡ suc (length rest) + length (change_at t (length before) ++ cs)
    go true m cs e = omega arith
    go false m cs e = omega arith

-- no more changes than bytes
pub changes-few : (before rest : List ℕ) → length (changes_from before rest) ≤ length rest
unfolding changes_from
changes-few before [] = omega arith
changes-few before (b ∷ rest) =
    go (bare before b) (changes_from (before ++ (b ∷ [])) rest) (changes-few (before ++ (b ∷ [])) rest)
  where
    go : (t : Bool) (cs : List Change) → length cs ≤ length rest
        → length (change_at t (length before) ++ cs) ≤ suc (length rest)
    go true cs e = omega arith
    go false cs e = omega arith

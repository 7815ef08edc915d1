-- The mark's bytes are no LF, CR or quote: what mending does to a file, said of the whole of it. Assumes nothing.
use Prim.Native.Nat.{ℕ}
use mathlib.Core.Path.{◌≡◌, refl, sym, ap, ◌∙◌}
use mathlib.Core.Bool.{Bool, true, false}
use mathlib.Core.List.{List, [], ◌++◌}
use lib.ListN.{take, drop}
use Rattle.base.specs.Pick.{pick}
use Rattle.base.specs.Part.{same_bytes}
use Rattle.base.proofs.Holds.{same_self}
use Rattle.spreadsheet.specs.Faults.{mark, marked, bare}
use Rattle.spreadsheet.specs.Mended.{mended_from, changes_from, text_start, mark_change, mended_of, changes_of}
use Rattle.spreadsheet.proofs.Marks.{marked-take, marked-split}
use Rattle.mending_theorems.specs.Faultless.{Marked}

-- the test for the mark
pub marked_so : (s : List ℕ) → Marked s → marked s ≡ true
unfolding marked
marked_so s m = rw m.begins (same_self mark)

pub so_marked : (s : List ℕ) → marked s ≡ true → Marked s
so_marked s e = record { rest = drop 3 s; begins = marked-split s e }

-- past the mark, with the mark before
changes-past : (r : List ℕ) → changes_from [] (mark ++ r) ≡ changes_from mark r
unfolding changes_from bare
changes-past r = refl

mended_past : (r : List ℕ) → mended_from [] (mark ++ r) ≡ mark ++ mended_from mark r
unfolding mended_from bare
mended_past r = refl

pub changes-all : (s : List ℕ) → changes_of s ≡ mark_change (marked s) ++ changes_from [] s
unfolding changes_of
changes-all s = go (marked s) refl
  where
    go : (m : Bool) → marked s ≡ m
        → mark_change m ++ changes_from (take (text_start m) s) (drop (text_start m) s)
        ≡ mark_change m ++ changes_from [] s
    go true e =
        ap (λ l. mark_change true ++ l)
        (ap (λ (l : List ℕ). changes_from l (drop 3 s)) (marked-take s e) ∙ sym (changes-past (drop 3 s))
        ∙ ap (changes_from []) (sym (marked-split s e)))
    go false e = refl

pub mended_all : (s : List ℕ) → mended_from [] s ≡ pick (marked s) mark [] ++ mended_of s
unfolding mended_of
mended_all s = go (marked s) refl
  where
    go : (m : Bool) → marked s ≡ m
        → mended_from [] s ≡ pick m mark [] ++ mended_from (take (text_start m) s) (drop (text_start m) s)
    go true e =
        ap (mended_from []) (marked-split s e) ∙ mended_past (drop 3 s)
        ∙ ap (λ (l : List ℕ). mark ++ mended_from l (drop 3 s)) (sym (marked-take s e))
    go false e = refl

-- of a file that has no mark, and of one that has
pub unmarked_mended : (s : List ℕ) → marked s ≡ false → mended_of s ≡ mended_from [] s
unmarked_mended s e = sym (rw e at (mended_all s))

pub marked_mended : (r : List ℕ) → mended_of (mark ++ r) ≡ mended_from mark r
unfolding mended_of marked same_bytes
marked_mended r = refl

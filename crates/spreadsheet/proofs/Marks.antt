-- The test for the mark: what the code compares, and what it says of the file. Assumes nothing.
use Prim.Native.Nat.{ℕ}
use mathlib.Core.Path.{◌≡◌, sym, ap, ◌∙◌}
use mathlib.Core.Bool.{Bool, true}
use mathlib.Core.List.{List, ◌++◌}
use lib.ListN.{take, drop, take-append-drop}
use Rattle.base.specs.Part.{part, same_bytes}
use Rattle.base.proofs.Holds.{same-eq}
use Rattle.spreadsheet.specs.Faults.{mark, marked}

pub marked-is : (s p : List ℕ) (r : Bool) → p ≡ part s 0 3 → r ≡ same_bytes p mark → r ≡ marked s
unfolding marked part
marked-is s p r e q = q ∙ ap (λ (l : List ℕ). same_bytes l mark) e

-- a file that begins with the mark is the mark and the rest
pub marked-take : (s : List ℕ) → marked s ≡ true → take 3 s ≡ mark
unfolding marked
marked-take s e = same-eq (take 3 s) mark e

pub marked-split : (s : List ℕ) → marked s ≡ true → s ≡ mark ++ drop 3 s
marked-split s e = sym (take-append-drop 3 s) ∙ ap (λ (l : List ℕ). l ++ drop 3 s) (marked-take s e)

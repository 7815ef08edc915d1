-- What was written had room. Assumes nothing.
use Rattle.std.specs.Prelude.{Ok, Err}
use Prim.Native.Nat.{ℕ, ◌*◌, ◌≤◌}
use mathlib.Core.Path.{◌≡◌, refl, sym, ap, ◌∙◌}
use mathlib.Core.Bool.{Bool, true, false}
use mathlib.Core.List.{List}
use native.Mathlib.Omega.{arith}
use lib.Dec.{leb}
use lib.ListN.{length}
use borrow.Author.Tests.{leb-true}
use Rattle.base.specs.Pick.{pick}
use Rattle.base.proofs.Clash.{clash}
use Rattle.base.proofs.Holds.{both_true}
use Rattle.base.specs.Refused.{refuse}
use Rattle.farm.specs.declared.Refusal.TheVariants.{BufferTooShort}
use Rattle.spreadsheet.specs.Mended.{entries, mended_of, changes_of}
use Rattle.mend.specs.Answer.{room, Mends, MendAnswer}
use Rattle.spreadsheet.proofs.Lengths.{entries-length}

-- the list, whose length stays, has two numbers for each change
pub list-room : (s out list o l : List ℕ) (r : MendAnswer) (n k : ℕ) → Mends s out list o l r → r ≡ Ok (n, k)
    → length l ≡ length list → 2 * k ≤ length l
list-room s out list o l r n k m e same = let h = go (room s out list) refl (sym e ∙ m.answer) in omega arith
  where
    second : MendAnswer → ℕ
    second (Ok (a, b)) = b
    second (Err refused) = 0

    go : (t : Bool) → room s out list ≡ t
        → ◌≡◌ {A = MendAnswer} (Ok (n, k))
        (pick t (Ok (length (mended_of s), length (changes_of s))) (refuse BufferTooShort 0))
        → 2 * k ≤ length list
    go true e r =
        let b = both_true (leb (length (mended_of s)) (length out))
        (leb (length (entries (changes_of s))) (length list)) e in
        let h = leb-true (length (entries (changes_of s))) (length list) b.1 in
        omega (arith, ap second r, entries-length (changes_of s))
    go false e r = clash cc

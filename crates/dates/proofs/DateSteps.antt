-- What two bytes spell as digits was behind digits. Assumes nothing.
use Prim.Native.Nat.{ℕ, ◌≤◌}
use mathlib.Core.Path.{◌≡◌, refl}
use mathlib.Core.Bool.{Bool, true, false}
use lib.Dec.{ltb}
use borrow.Author.Tests.{ltb-false}
use Rattle.base.specs.Pick.{pick}
use Rattle.base.proofs.Clash.{clash}
use Rattle.std.specs.Prelude.{Option, Some, None}
use Rattle.dates.specs.Reading.{if_digit}

-- what is spelled was behind a digit
pub digit-spelled : {R : Type 0} (b : ℕ) (x : Option ℕ) (v : ℕ) → if_digit b x ≡ Some v
    → (48 ≤ b → b ≤ 57 → x ≡ Some v → R) → R
digit-spelled {R} b x v e k = go (ltb b 48) (ltb 57 b) refl refl e
  where
    go : (s t : Bool) → ltb b 48 ≡ s → ltb 57 b ≡ t → pick s None (pick t None x) ≡ Some v → R
    go true t p q e = clash cc
    go false true p q e = clash cc
    go false false p q e = k (ltb-false b 48 p) (ltb-false 57 b q) e

-- Fields that need no quotes: names and paths, and numbers as they are written. Assumes nothing.
use Prim.Native.Nat.{ℕ, zero, suc, ◌+◌, ◌/◌, ◌%◌, ◌<◌}
use mathlib.Core.Path.{◌≡◌}
use mathlib.Core.Bool.{Bool, true}
use mathlib.Core.List.{List, [], ◌∷◌, ◌++◌}
use native.Mathlib.Omega.{arith}
use borrow.Author.Tests.{ltb-true}
use lib.Dec.{ltb}
use Rattle.base.specs.Runs.{all}
use Rattle.base.proofs.Holds.{both_true}
use Rattle.grammar.specs.Grammar.{Text, Plain}
use Rattle.decimal.specs.Writing.{lowest, width, whole_of}

-- bytes past the comma are text: letters, digits, `_`, `:`, `.` and `-`
past-comma : (b : ℕ) → 44 < b → Text b
past-comma b h = record
    { no_comma = λ e. omega arith; no_quote = λ e. omega arith; no_cr = λ e. omega arith; no_lf = λ e. omega arith }

abbrev pub all_past : List ℕ → Bool
all_past s = all (ltb 44) s

pub past-plain : (s : List ℕ) → all_past s ≡ true → Plain s
past-plain [] e = Plain.none
past-plain (b ∷ s) e =
    let h = both_true (ltb 44 b) (all_past s) e in
    Plain.byte (past-comma b (ltb-true 44 b h.0)) (past-plain s h.1)

pub plain-append : {a b : List ℕ} → Plain a → Plain b → Plain (a ++ b)
plain-append Plain.none q = q
plain-append (Plain.byte t p) q = Plain.byte t (plain-append p q)

-- ---- numbers

pub plain-lowest : (k n : ℕ) → Plain (lowest k n)
plain-lowest zero n = Plain.none
plain-lowest (suc k) n =
    plain-append (plain-lowest k (n / 10)) (Plain.byte (past-comma (48 + n % 10) (omega arith)) Plain.none)

pub plain-whole : (n : ℕ) → Plain (whole_of n)
unfolding whole_of
plain-whole n = plain-lowest (width n) n

-- Lists of tests that refuse: what it means that none of them holds, and what the first that holds gives. Assumes
-- nothing.
use Rattle.std.specs.Prelude.{Err}
use Prim.Native.Nat.{ℕ}
use mathlib.Core.Path.{◌≡◌, refl, ap}
use mathlib.Core.Bool.{Bool, true, false, ◌||◌}
use mathlib.Core.List.{List, [], ◌∷◌, ◌++◌}
use Rattle.base.specs.declared.refusals.Refused.{Refused}
use Rattle.base.specs.Pick.{pick}
use Rattle.base.specs.First.{Test, ◌when◌, first}
use Rattle.base.proofs.Clash.{clash}
use Rattle.base.specs.Each.{Each, none, more}
use Rattle.base.specs.Refused.{refuse}
use Rattle.farm.specs.declared.Refusal.{Refusal}
use Rattle.farm.specs.Answers.{Accepted, Checked}

-- of two tests neither holds
pub neither : (a b : Bool) → (a || b) ≡ false → (a ≡ false) × (b ≡ false)
neither true b e = (e, cc)
neither false b e = (refl, e)

-- the first of two lists' tests is the first of the one list's, or else of the other's
pub first-append : {A : Type 0} (a b : List (Test A)) (z : A) → first (a ++ b) z ≡ first a (first b z)
first-append [] b z = refl
first-append (l ∷ a) b z = ap (pick l.holds l.answer) (first-append a b z)

-- a test that refuses
pub data Refusing : Test Checked → Type 0 where
  refusing : {why : Refused Refusal} {t : Bool} → Refusing (Err why when t)

-- none of the tests holds
abbrev pub Quiet : List (Test Checked) → Type 0
Quiet ls = Each (λ l. l.holds ≡ false) ls

-- then what stands behind them is given
pub quiet-passes : {ls : List (Test Checked)} → Quiet ls → (z : Checked) → first ls z ≡ z
quiet-passes none z = refl
quiet-passes (more e q) z = rw e (quiet-passes q z)

-- tests that refuse accept only where none holds
pub accepted-quiet : {ls : List (Test Checked)} → Each Refusing ls → first ls Accepted ≡ Accepted → Quiet ls
accepted-quiet none e = none
accepted-quiet (more {l = ls} (refusing {why} {t}) rs) e = go t e (accepted-quiet rs)
  where
    go : (t : Bool) → pick t (Err why) (first ls Accepted) ≡ Accepted
        → (first ls Accepted ≡ Accepted → Quiet ls) → Quiet (Err why when t ∷ ls)
    go true h rest = clash cc
    go false h rest = more refl (rest h)

-- and a refusal is given whatever stands behind them
pub refused-first : {ls : List (Test Checked)} {why : Refused Refusal} → Each Refusing ls
    → first ls Accepted ≡ Err why → (z : Checked) → first ls z ≡ Err why
refused-first none e z = cc
refused-first {why} (more {l = ls} (refusing {why = f} {t}) rs) e z =
    go t e (λ h. refused-first rs h z)
  where
    go : (t : Bool) → pick t (Err f) (first ls Accepted) ≡ Err why
        → (first ls Accepted ≡ Err why → first ls z ≡ Err why)
        → pick t (Err f) (first ls z) ≡ Err why
    go true h rest = h
    go false h rest = rest h

-- Entries laid into an array from the front, of any type: as many as there is room for, and behind them what was there.
-- Assumes nothing.
use mathlib.Core.Path.{◌≡◌, refl, ap}
use Prim.Native.Nat.{ℕ, zero, suc, min}
use native.Mathlib.Omega.{arith}
use mathlib.Core.List.{List, [], ◌∷◌, ◌++◌}
use lib.ListN.{length, take, drop}
use Rattle.lent.specs.Laid.{laid}

pub laid-cut : {A : Type 0} (n : ℕ) (hs old : List A) → n ≡ min (length hs) (length old)
    → take n hs ++ drop n old ≡ laid hs old
laid-cut zero [] old h = refl
laid-cut zero (x ∷ hs) [] h = refl
laid-cut zero (x ∷ hs) (y ∷ old) h = absurd (omega (arith, h))
laid-cut (suc n) [] old h = absurd (omega (arith, h))
laid-cut (suc n) (x ∷ hs) [] h = absurd (omega (arith, h))
laid-cut {A} (suc n) (x ∷ hs) (y ∷ old) h = ap (λ (l : List A). x ∷ l) (laid-cut n hs old (omega (arith, h)))

-- A choice by its place: past the others the last, as the code's tests leave it. Assumes nothing.
use Prim.Native.Nat.{ℕ, zero, suc, ◌≤◌}
use mathlib.Core.Path.{◌≡◌, refl}
use mathlib.Core.List.{List, [], ◌∷◌, ◌++◌}
use native.Mathlib.Omega.{arith}
use lib.ListN.{length, get_or}

pub is_last : {A : Type 0} (others : List A) (last : A) (place : ℕ) → length others ≤ place
    → last ≡ get_or (others ++ (last ∷ [])) place last
is_last [] last zero h = refl
is_last [] last (suc place) h = refl
is_last (x ∷ others) last zero h = absurd (omega arith)
is_last (x ∷ others) last (suc place) h = is_last others last place (omega arith)

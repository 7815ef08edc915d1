-- One equation that antt computes for a whole list, and the law that carries it to each entry.
-- Assumes nothing.
use Prim.Native.Nat.{ℕ, zero, suc, ◌+◌, ◌<◌}
use mathlib.Core.Path.{◌≡◌, ap, ◌∙◌}
use mathlib.Core.List.{List, [], ◌∷◌, map}
use native.Mathlib.Nat.{le_of_suc-le-suc, not-suc-le-zero}
use native.Mathlib.Omega.{arith}
use lib.ListN.{length, get_or}
use Rattle.base.proofs.Clash.{clash}

-- where f and g give two lists the same, so they give the two entries at a place
pub entry : {A B C : Type 0} (f : A → C) (g : B → C) (xs : List A) (ys : List B) (d : A) (e : B) → map f xs ≡ map g ys
    → (k : ℕ) → k < length ys → f (get_or xs k d) ≡ g (get_or ys k e)
entry f g xs [] d e h k b = absurd (not-suc-le-zero b)
entry f g [] (y ∷ ys) d e h k b = clash cc
entry f g (x ∷ xs) (y ∷ ys) d e h zero b = cc
entry f g (x ∷ xs) (y ∷ ys) d e h (suc k) b = let t : map f xs ≡ map g ys = cc in
    entry f g xs ys d e t k (le_of_suc-le-suc b)

-- ---- a list by its places

-- the places of a list, counted from i
abbrev pub places : {A : Type 0} → ℕ → List A → List ℕ
places i [] = []
places i (x ∷ l) = i ∷ places (i + 1) l

placed : {A : Type 0} (l : List A) (i k : ℕ) → k < length l → get_or (places i l) k 0 ≡ i + k
placed [] i k h = absurd (omega arith)
placed (x ∷ l) i zero h = omega arith
placed (x ∷ l) i (suc k) h = placed l (i + 1) k (omega arith) ∙ omega arith

-- what f gives the places and g the entries is the same at each
pub entry_at : {B C : Type 0} (f : ℕ → C) (g : B → C) (ys : List B) (e : B) → map f (places 0 ys) ≡ map g ys → (k : ℕ)
    → k < length ys → f k ≡ g (get_or ys k e)
entry_at f g ys e h k b =
    let z : k ≡ get_or (places 0 ys) k 0 = omega (arith, placed ys 0 k b) in
    ap f z ∙ entry f g (places 0 ys) ys 0 e h k b

-- What `laid` says of an array (02, W12): it is as long as it was; the i-th entry is the i-th herd; "What a caller's
-- array holds beyond the last herd stays as it was"; and where there is room, the herds stand in front of what was
-- behind them. Assumes nothing.
use mathlib.Core.Path.{◌≡◌, refl, ap}
use Prim.Native.Nat.{ℕ, zero, suc, ◌≤◌, ◌<◌}
use native.Mathlib.Nat.{not-suc-le-zero, le_of_suc-le-suc}
use mathlib.Core.List.{List, [], ◌∷◌, ◌++◌}
use lib.ListN.{length, get_or, take, drop}
use Rattle.lent.specs.Laid.{laid}

module _ {A : Type 0} where
  pub length-laid : (hs old : List A) → length (laid hs old) ≡ length old
  length-laid [] old = refl
  length-laid (h ∷ hs) [] = refl
  length-laid (h ∷ hs) (y ∷ old) = ap suc (length-laid hs old)

  pub laid-at : (hs old : List A) (i : ℕ) (d : A) → i < length hs → i < length old
      → get_or (laid hs old) i d ≡ get_or hs i d
  laid-at [] old i d h k = absurd (not-suc-le-zero h)
  laid-at (x ∷ hs) [] i d h k = absurd (not-suc-le-zero k)
  laid-at (x ∷ hs) (y ∷ old) zero d h k = refl
  laid-at (x ∷ hs) (y ∷ old) (suc i) d h k = laid-at hs old i d (le_of_suc-le-suc h) (le_of_suc-le-suc k)

  pub laid-behind : (hs old : List A) (i : ℕ) (d : A) → length hs ≤ i → get_or (laid hs old) i d ≡ get_or old i d
  laid-behind [] old i d h = refl
  laid-behind (x ∷ hs) [] i d h = refl
  laid-behind (x ∷ hs) (y ∷ old) zero d h = absurd (not-suc-le-zero h)
  laid-behind (x ∷ hs) (y ∷ old) (suc i) d h = laid-behind hs old i d (le_of_suc-le-suc h)

  pub laid-front : (hs old : List A) → length hs ≤ length old → laid hs old ≡ hs ++ drop (length hs) old
  laid-front [] old h = refl
  laid-front (x ∷ hs) [] h = absurd (not-suc-le-zero h)
  laid-front (x ∷ hs) (y ∷ old) h = ap (λ (l : List A). x ∷ l) (laid-front hs old (le_of_suc-le-suc h))

  pub take-laid : (hs old : List A) → length hs ≤ length old → take (length hs) (laid hs old) ≡ hs
  take-laid [] old h = refl
  take-laid (x ∷ hs) [] h = absurd (not-suc-le-zero h)
  take-laid (x ∷ hs) (y ∷ old) h = ap (λ (l : List A). x ∷ l) (take-laid hs old (le_of_suc-le-suc h))

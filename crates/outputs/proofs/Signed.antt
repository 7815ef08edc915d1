-- What an i64 holds of grams that are not too large. Assumes nothing.
use Prim.Native.Nat.{ℕ, suc, ◌+◌, ◌^◌, ◌<◌}
use mathlib.Core.Path.{◌≡◌, refl}
use mathlib.Core.List.{List, [], ◌∷◌, map}
use native.Mathlib.Omega.{arith}
use lib.IntN.{ℤ, nat_abs, ◌+ℤ◌}
use mir.Syntax.{w64}
use mir.Val.{SFits, to_z, of_z}
use Rattle.cut_division.proofs.Signed.{fits_abs, back, plus_asks, plus_gave}
use Rattle.outputs.specs.Grams.{grams_at, GramsTo, figure_most}

pub fits : {g : List ℤ} → GramsTo figure_most g → (n : ℕ) → SFits w64 (grams_at g n)
fits {g} to n = fits_abs (grams_at g n) (omega (arith, to.most n))

-- grams that were cast or read are the grams
pub grams-back : (g : List ℤ) → GramsTo figure_most g → map (λ (z : ℤ). to_z w64 (of_z w64 z)) g ≡ g
grams-back [] to = refl
grams-back (z ∷ g) to =
    let e = back z (omega (arith, to.most 0)) in
    let d = grams-back g (record { most = λ n. to.most (suc n) }) in cc

-- ---- two figures of one number, added by the machine

module _ {a b : List ℤ} (ta : GramsTo figure_most a) (tb : GramsTo figure_most b) (n : ℕ) where
  pub plus_fits : nat_abs (to_z w64 (of_z w64 (grams_at a n))) + nat_abs (to_z w64 (of_z w64 (grams_at b n))) < 2 ^ 63
  plus_fits = plus_asks (grams_at a n) (grams_at b n) (omega (arith, ta.most n, tb.most n))

  pub plus_is : (r : ℤ) → r ≡ to_z w64 (of_z w64 (grams_at a n)) +ℤ to_z w64 (of_z w64 (grams_at b n))
      → to_z w64 (of_z w64 r) ≡ grams_at a n +ℤ grams_at b n
  plus_is = plus_gave (grams_at a n) (grams_at b n) (omega (arith, ta.most n, tb.most n))

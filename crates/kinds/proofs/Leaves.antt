-- What a free factor leaves, by its sign. Assumes nothing.
use mathlib.Core.Path.{◌≡◌, refl, ap, ◌∙◌}
use mathlib.Core.Bool.{true, false}
use Prim.Native.Nat.{ℕ, ◌+◌, ◌-◌, ◌≤◌}
use native.Mathlib.Omega.{arith}
use lib.IntN.{ℤ, pos, negsuc, nat_abs}
use lib.Signed.{lt_z}
use mir.Syntax.{w64}
use mir.Val.{SFits}
use mir.Facts.{to_z-of_z}
use Rattle.cut_division.proofs.Signs.{back, never-below, always_below}
use Rattle.amounts.specs.Units.{percent}
use Rattle.amounts.specs.Bounds.{UpTo}
use Rattle.kinds.specs.Free.{c_free_factor}

-- twice as much is left at most
pub free-le : (free : ℤ) → nat_abs free ≤ percent → c_free_factor free ≤ percent + percent
free-le (pos n) h = omega arith
free-le (negsuc n) h = omega arith

module _ (free : ℤ) (f : SFits w64 free) (h : nat_abs free ≤ percent) (m : ℕ) (e : m ≡ nat_abs (back free)) where
  pub size_is : m ≡ nat_abs free
  size_is = e ∙ ap nat_abs (to_z-of_z f)

  pub size-le : m ≤ percent
  size-le = omega (arith, size_is)

  pub left_below : lt_z (back free) (pos 0) ≡ true → UpTo (percent + percent) (c_free_factor free) (percent + m)
  left_below t = record { is = below free f t size_is; most = omega (arith, size-le) }
    where
      below : (free : ℤ) → SFits w64 free → lt_z (back free) (pos 0) ≡ true → m ≡ nat_abs free
          → percent + m ≡ c_free_factor free
      below (pos n) f t e = absurd (never-below f t)
      below (negsuc n) f t e = rw e refl

  pub left_above : lt_z (back free) (pos 0) ≡ false → UpTo (percent + percent) (c_free_factor free) (percent - m)
  left_above t = record { is = above free f t size_is; most = omega arith }
    where
      above : (free : ℤ) → SFits w64 free → lt_z (back free) (pos 0) ≡ false → m ≡ nat_abs free
          → percent - m ≡ c_free_factor free
      above (pos n) f t e = rw e refl
      above (negsuc n) f t e = absurd (always_below f t)

pub ruleset leaves_steps = (size-le, left_below, left_above)

-- where a caller hands on a factor that it has
module _ (free : ℤ) (f : SFits w64 free) where
  pub free-asked : nat_abs free ≤ percent → nat_abs (back free) ≤ percent
  free-asked h = omega (arith, ap nat_abs (to_z-of_z f))

  pub free-found : (m : ℕ) → UpTo (percent + percent) (c_free_factor (back free)) m
      → UpTo (percent + percent) (c_free_factor free) m
  free-found m u = record { is = u.is ∙ ap c_free_factor (to_z-of_z f); most = u.most }

pub ruleset free_steps = (free-asked, free-found)

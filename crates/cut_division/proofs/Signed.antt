-- Numbers that may be below zero: each as a difference of two whole numbers, which `omega` reads; the size of sums and
-- differences; and what an i64 holds of them. Assumes nothing.
use mathlib.Core.Path.{◌≡◌, refl, ap}
use mathlib.Core.Bool.{Bool, true, false, cond}
use Prim.Native.Nat.{ℕ, zero, suc, ◌+◌, ◌-◌, ◌*◌, ◌≤◌, ◌<◌, ◌^◌}
use native.Mathlib.Nat.{lt_of_le_of_lt}
use native.Mathlib.Omega.{arith}
use borrow.Author.Tests.{ltb-true, ltb-false, le-ltb}
use lib.Dec.{ltb}
use lib.IntN.{ℤ, pos, negsuc, neg_ℤ, sub_ℕ, nat_abs, ◌+ℤ◌, ◌-ℤ◌, ◌*ℤ◌}
use lib.Signed.{mag}
use mir.Syntax.{w64}
use mir.Val.{SFits, to_z, of_z}
use mir.Facts.{to_z-of_z, to_z_pos}

-- ---- z is up z less dn z, and one of the two is 0

abbrev pub up : ℤ → ℕ
up (pos n) = n
up (negsuc n) = 0

abbrev pub dn : ℤ → ℕ
dn (pos n) = 0
dn (negsuc n) = suc n

-- z is a less b
pub record Diff (z : ℤ) (a b : ℕ) : Type 0 where
  pub eq : up z + b ≡ a + dn z

sub_by : (a b : ℕ) (t : Bool) → ltb a b ≡ t → Diff (cond t (negsuc (b - suc a)) (pos (a - b))) a b
sub_by a b true e = let h = ltb-true a b e in record { eq = omega arith }
sub_by a b false e = let h = ltb-false a b e in record { eq = omega arith }

sub_diff : (a b : ℕ) → Diff (sub_ℕ a b) a b
sub_diff a b = sub_by a b (ltb a b) refl

neg_diff : (z : ℤ) → Diff (neg_ℤ z) (dn z) (up z)
neg_diff (pos zero) = record { eq = refl }
neg_diff (pos (suc n)) = record { eq = omega arith }
neg_diff (negsuc n) = record { eq = omega arith }

pub add_diff : (a b : ℤ) → Diff (a +ℤ b) (up a + up b) (dn a + dn b)
add_diff (pos a) (pos b) = record { eq = omega arith }
add_diff (pos a) (negsuc b) = let h = sub_diff a (suc b) in record { eq = omega arith }
add_diff (negsuc a) (pos b) = let h = sub_diff b (suc a) in record { eq = omega arith }
add_diff (negsuc a) (negsuc b) = record { eq = omega arith }

pub minus_diff : (a b : ℤ) → Diff (a -ℤ b) (up a + dn b) (dn a + up b)
minus_diff a b = let h = add_diff a (neg_ℤ b) in let k = neg_diff b in record { eq = omega arith }

-- times a number that is not below zero
pub scale_diff : (a : ℤ) (n : ℕ) → Diff (a *ℤ pos n) (up a * n) (dn a * n)
scale_diff (pos a) n = record { eq = omega arith }
scale_diff (negsuc a) n = let h = neg_diff (pos (suc a * n)) in record { eq = omega arith }

-- ---- sizes

size_is : (z : ℤ) → nat_abs z ≡ up z + dn z
size_is (pos n) = omega arith
size_is (negsuc n) = omega arith

diff_size : (z : ℤ) {a b : ℕ} → Diff z a b → nat_abs z ≤ a + b
diff_size (pos n) d = omega arith
diff_size (negsuc n) d = omega arith

-- the size of a less b is at most e where neither is more than e above the other
pub size_of : (z : ℤ) (e : ℕ) {a b : ℕ} → Diff z a b → a ≤ b + e → b ≤ a + e → nat_abs z ≤ e
size_of (pos n) e d h k = omega arith
size_of (negsuc n) e d h k = omega arith

pub abs_add : (a b : ℤ) → nat_abs (a +ℤ b) ≤ nat_abs a + nat_abs b
abs_add a b = omega (arith, diff_size (a +ℤ b) (add_diff a b), size_is a, size_is b)

pub abs_sub : (a b : ℤ) → nat_abs (a -ℤ b) ≤ nat_abs a + nat_abs b
abs_sub a b = omega (arith, diff_size (a -ℤ b) (minus_diff a b), size_is a, size_is b)

-- a difference of two whole numbers is no larger than the larger
pub less-size : (k : ℕ) {a b : ℕ} → a < k → b < k → nat_abs (pos a -ℤ pos b) < k
less-size k {a} {b} ha hb =
    lt_of_le_of_lt (size_of (pos a -ℤ pos b) (k - 1) (minus_diff (pos a) (pos b)) (omega arith) (omega arith))
    (omega arith)

-- ---- whole numbers among them

-- what is taken is at most what is there: the difference is a whole number
pub pos_sub : (a b : ℕ) → b ≤ a → pos a -ℤ pos b ≡ pos (a - b)
pos_sub a zero h = ap pos (omega arith)
pos_sub a (suc b) h = rw (le-ltb a (suc b)) refl

-- ---- what an i64 holds

mag-le : (z : ℤ) → mag z ≤ nat_abs z
mag-le (pos n) = omega arith
mag-le (negsuc n) = omega arith

-- a number whose size is below 2 ^ 63 fits
pub fits_abs : (z : ℤ) → nat_abs z < 2 ^ 63 → SFits w64 z
fits_abs z h = record { sfits = omega (arith, mag-le z) }

-- and is read back from its bits
pub back : (z : ℤ) → nat_abs z < 2 ^ 63 → to_z w64 (of_z w64 z) ≡ z
back z h = to_z-of_z (fits_abs z h)

-- so is what a call handed back: `kept c.less.result c.less.ok`
pub back-mag : (z : ℤ) → mag z < 2 ^ 63 → to_z w64 (of_z w64 z) ≡ z
back-mag z h = to_z-of_z {w = w64} (record { sfits = h })

-- a u64 below 2 ^ 63, cast to an i64
pub cast_pos : (n : ℕ) → n < 2 ^ 63 → to_z w64 n ≡ pos n
cast_pos n h = to_z_pos w64 h

-- ---- a difference of two whole numbers, as the machine forms it

module _ (a b : ℕ) (ha : a < 2 ^ 63) (hb : b < 2 ^ 63) where
  pub less-fits : SFits w64 (to_z w64 a -ℤ to_z w64 b)
  less-fits = rw (cast_pos a ha, cast_pos b hb) (fits_abs _ (less-size (2 ^ 63) ha hb))

  pub less-is : to_z w64 (of_z w64 (to_z w64 a -ℤ to_z w64 b)) ≡ pos a -ℤ pos b
  less-is = rw (cast_pos a ha, cast_pos b hb) (back _ (less-size (2 ^ 63) ha hb))

pub ruleset less_steps = (less-fits, less-is)

-- ---- a sum, whose parts are held as bits: it fits, `plus` may be asked for it, and this is what it gave

module _ (a b : ℤ) (h : nat_abs a + nat_abs b < 2 ^ 63) where
  pub plus_fits : SFits w64 (to_z w64 (of_z w64 a) +ℤ to_z w64 (of_z w64 b))
  plus_fits = let k = abs_add a b in rw (back a (omega arith), back b (omega arith)) (fits_abs _ (omega arith))

  pub plus_asks : nat_abs (to_z w64 (of_z w64 a)) + nat_abs (to_z w64 (of_z w64 b)) < 2 ^ 63
  plus_asks = rw (back a (omega arith), back b (omega arith)) h

  pub plus_gave : (r : ℤ) → r ≡ to_z w64 (of_z w64 a) +ℤ to_z w64 (of_z w64 b) → to_z w64 (of_z w64 r) ≡ a +ℤ b
  plus_gave r e =
      let k = abs_add a b in
      rw (e, back a (omega arith), back b (omega arith)) (back (a +ℤ b) (omega arith))

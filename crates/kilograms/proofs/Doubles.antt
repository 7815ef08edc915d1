-- Grams as a double, by 1000.0: the cast loses nothing, and the quotient is the double nearest to the thousandth.
-- Assumes nothing.
use Prim.Native.Nat.{ℕ, zero, suc, ◌+◌, ◌*◌, ◌^◌, ◌≤◌, ◌<◌}
use mathlib.Core.Path.{◌≡◌, refl, sym, ap, subst, ◌∙◌}
use mathlib.Core.Bool.{Bool, true, false, cond, true≢false}
use native.Mathlib.Nat.{mul-pos}
use native.Mathlib.Omega.{arith}
use lib.Dec.{T, ltb, lit<, le→leb, lt→ltb}
use lib.Count.{count_trailing_zeros}
use lib.IntN.{ℤ, pos, negsuc, neg_ℤ, nat_abs, ◌*ℤ◌}
use lib.Ieee.{
  Float,
  nan,
  inf,
  fin,
  Format,
  binary64,
  prec,
  emax,
  low,
  up,
  down,
  unlike,
  span,
  climb,
  size,
  odd,
  units,
  round,
  neg,
  div,
  of_int,
  of_fields,
  of_bits,
  in_float,
}
use lib.Ieee.Exact.{HasValue}
use lib.Ieee.Fits.{round_is, down_pos}
use lib.Ieee.Back.{round_whole}
use lib.Ieee.Scale.{round_same, finite}
use lib.Ieee.Order.{round_mono}
use lib.Ieee.Positive.{positive, positive-finite, positive_of_value, between}
use Rattle.kilograms.specs.Kilograms.{double, in_kilograms, exact_most, plus_zero}
use Rattle.kilograms.specs.Promised.{below, Promised}

-- ---- the cast loses nothing

pub exact : (z : ℤ) → nat_abs z ≤ exact_most → T (in_float binary64 z)
unfolding in_float
exact (pos n) h = le→leb n exact_most h
exact (negsuc n) h = lt→ltb n exact_most (omega arith)

pub lossless : (z : ℤ) → nat_abs z ≤ exact_most → HasValue (double z) (below z) (nat_abs z) 1
unfolding of_int
lossless (pos n) h = round_whole binary64 false n h
lossless (negsuc n) h = round_whole binary64 true (suc n) h

-- ---- 1000 as a double, in bits and as it was cast: 125 * 2 ^ 3

thousand_cast : double (pos 1000) ≡ fin false 125 (pos 3)
unfolding of_int round size span climb units odd count_trailing_zeros
thousand_cast = refl

thousand-bits : of_bits binary64 4652007308841189376 ≡ fin false 125 (pos 3)
unfolding of_bits of_fields odd count_trailing_zeros
thousand-bits = refl

-- the constant of the code is 1000
pub thousand : of_bits binary64 4652007308841189376 ≡ double (pos 1000)
thousand = thousand-bits ∙ sym thousand_cast

-- ---- the quotient

same_sign : (t : Bool) → unlike t false ≡ t
same_sign true = refl
same_sign false = refl

cross : (m d n : ℕ) → m * 1 ≡ n * d → m * 1 * 1000 ≡ n * (1000 * d)
cross m d n h = omega arith

by-thousand : (x : Float) (s : Bool) (n : ℕ) → HasValue x s n 1
    → div binary64 x (fin false 125 (pos 3)) ≡ round binary64 s n 1000
unfolding div
by-thousand nan s n v = absurd v
by-thousand (inf t) s n v = absurd v
by-thousand (fin t m e) s n v =
    ap (λ (b : Bool). round binary64 b (m * up e * 1) (1000 * down e)) (same_sign t ∙ v.0)
    ∙ round_same binary64 s (m * up e * 1) (1000 * down e) n 1000 (mul-pos (lit< tt) (down_pos e)) (lit< tt)
    (cross (m * up e) (down e) n v.1)

pub nearest : (z : ℤ) → nat_abs z ≤ exact_most → in_kilograms z ≡ round binary64 (below z) (nat_abs z) 1000
unfolding in_kilograms
nearest z h =
    ap (div binary64 (double z)) thousand_cast ∙ by-thousand (double z) (below z) (nat_abs z) (lossless z h)

-- ---- whole kilograms

round_thousands : (s : Bool) (m : ℕ) → round binary64 s (1000 * m) 1000 ≡ round binary64 s m 1
round_thousands s m = round_same binary64 s (1000 * m) 1000 m 1 (lit< tt) (lit< tt) (omega arith)

below_minus : (k : ℕ) → 0 < k → below (neg_ℤ (pos k)) ≡ true
below_minus zero h = absurd (omega arith)
below_minus (suc k) h = refl

abs_minus : (k : ℕ) → nat_abs (neg_ℤ (pos k)) ≡ k
abs_minus zero = refl
abs_minus (suc k) = refl

wholes : (k : ℤ) → nat_abs (pos 1000 *ℤ k) ≤ exact_most
    → HasValue (round binary64 (below (pos 1000 *ℤ k)) (nat_abs (pos 1000 *ℤ k)) 1000) (below k) (nat_abs k) 1
wholes (pos m) h = rw (round_thousands false m) (round_whole binary64 false m (omega arith))
wholes (negsuc m) h =
    let l : 1000 * suc m ≤ exact_most = rw (abs_minus (1000 * suc m)) at h in
    rw (below_minus (1000 * suc m) (omega arith), abs_minus (1000 * suc m), round_thousands true (suc m))
    (round_whole binary64 true (suc m) (omega arith))

-- ---- the sign, and that the quotient is finite

-- what is rounded below zero is what is rounded above it, with the other sign
odd_flip : (d q k l : ℕ) → neg (odd d true q k l) ≡ odd d false q k l
unfolding odd neg
odd_flip d zero k l = refl
odd_flip d (suc q) k l = refl

units_flip : (f : Format) (q k : ℕ) → neg (units f true q k) ≡ units f false q k
unfolding units neg
units_flip f q k = go (ltb (q * 2 ^ k) (2 ^ (low f + suc (emax f))))
  where
    go : (b : Bool) → neg (cond b (odd (suc (prec f)) true q k (low f)) (inf true))
        ≡ cond b (odd (suc (prec f)) false q k (low f)) (inf false)
    go true = odd_flip (suc (prec f)) q k (low f)
    go false = refl

round_flip : (f : Format) (a b : ℕ) → neg (round f true a b) ≡ round f false a b
round_flip f a b = ap neg (round_is f true a b) ∙ units_flip f _ _ ∙ sym (round_is f false a b)

least : T (positive (round binary64 false 1 1000))
unfolding round size span climb units odd count_trailing_zeros
least = tt

most : T (positive (round binary64 false exact_most 1))
most =
    let v = round_whole binary64 false exact_most (omega arith) in
    positive_of_value (round binary64 false exact_most 1) exact_most 1 v (lit< tt)

-- a gram or more is above zero
above_zero : (n : ℕ) → 0 < n → n ≤ exact_most → T (positive (round binary64 false n 1000))
above_zero n h l =
    between (round binary64 false 1 1000) (round binary64 false n 1000) (round binary64 false exact_most 1) least most
    (round_mono binary64 1 1000 n 1000 (lit< tt) (lit< tt) (omega arith))
    (round_mono binary64 n 1000 exact_most 1 (lit< tt) (lit< tt) (omega arith))

zero-value : HasValue (round binary64 false 0 1000) false 0 1
zero-value = rw (round_thousands false 0) (round_whole binary64 false 0 (omega arith))

-- finite, and not -0
record Proper (x : Float) : Type 0 where
  pub is_finite : T (finite x)
  pub no_minus-zero : (e : ℤ) → x ≡ fin true 0 e → ⊥

-- no value with the sign of a positive one is -0
positive-proper : (x : Float) → T (positive x) → Proper x
positive-proper x p =
    record {
      is_finite = positive-finite x p;
      no_minus-zero = λ e q. subst (λ (y : Float). T (positive y)) q p;
    }

zero-proper : (x : Float) → HasValue x false 0 1 → Proper x
zero-proper nan v = absurd v
zero-proper (inf s) v = absurd v
zero-proper (fin s m e) v =
    record {
      is_finite = tt;
      no_minus-zero = λ d q. true≢false (subst (λ (y : Float). HasValue y false 0 1) q v).0;
    }

-- what is positive with the other sign
minus_proper : (x : Float) → T (positive (neg x)) → Proper x
unfolding neg
minus_proper nan p = absurd p
minus_proper (inf s) p = absurd p
minus_proper (fin s m e) p =
    record {
      is_finite = tt;
      no_minus-zero = λ d q. subst (λ (y : Float). T (positive (neg y))) q p;
    }

proper : (z : ℤ) → nat_abs z ≤ exact_most → Proper (round binary64 (below z) (nat_abs z) 1000)
proper (pos zero) h = zero-proper (round binary64 false 0 1000) zero-value
proper (pos (suc n)) h = positive-proper (round binary64 false (suc n) 1000) (above_zero (suc n) (omega arith) h)
proper (negsuc n) h =
    minus_proper (round binary64 true (suc n) 1000)
    (subst (λ (x : Float). T (positive x)) (sym (round_flip binary64 (suc n) 1000))
    (above_zero (suc n) (omega arith) h))

-- ---- all of it

pub promised : (z : ℤ) → nat_abs z ≤ exact_most → Promised z (in_kilograms z)
unfolding in_kilograms
promised z h =
    let n = nearest z h in
    let p = subst Proper (sym n) (proper z h) in
    record {
      lossless = lossless z h;
      divided = refl;
      nearest = n;
      wholes = λ k q.
          let l : nat_abs (pos 1000 *ℤ k) ≤ exact_most = rw (← q) h in
          rw (n, q) (wholes k l);
      no_negative_zero = p.no_minus-zero;
      is_finite = p.is_finite;
    }

-- 0 grams are +0
pub nothing : in_kilograms (pos 0) ≡ plus_zero
unfolding in_kilograms div of_int round size span climb units odd count_trailing_zeros
nothing = refl

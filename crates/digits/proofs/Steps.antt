-- The steps of reading digits, each in the form that a place of the code wants: X is what the whole text gives.
-- Assumes nothing.
use Rattle.std.specs.Prelude.{None, Some}
use Prim.Native.Nat.{ℕ, zero, suc, ◌+◌, ◌-◌, ◌*◌, ◌^◌, ◌<◌, ◌≤◌}
use mathlib.Core.List.{List, [], ◌∷◌}
use mathlib.Core.Bool.{Bool, true, false}
use mathlib.Core.Path.{◌≡◌, refl, sym, ap, ◌∙◌}
use lib.Dec.{eqb, ltb, leb}
use lib.ListN.{length, get_or, drop}
use Rattle.std.proofs.Common.{inl, inr}
use Rattle.std.specs.Char.{IsNotAsciiDigit}
use native.Mathlib.Omega.{arith}
use native.Mathlib.Nat.{one-le-pow, pow-succ', mul_assoc, mul-one, le-mul_of_pos_right}
use borrow.Author.Tests.{eq-eqb, ne_eqb, le-leb, lt-leb, lt-ltb, le-ltb, ltb-false, leb-true, leb-false}
use Rattle.base.specs.Pick.{pick}
use Rattle.base.proofs.Rest.{rest_at, rest_end}
use Rattle.base.proofs.Clash.{clash}
use Rattle.digits.specs.Digits.{if_digit◌then◌, more, with_digit, scaled_by, fraction_from, point_from, up_to}
use Rattle.digits.specs.Digits.{Number}

pub unequal : (v : ℕ) → None ≡ Some v → ⊥
unequal v e = clash cc

-- the tests of `with_digit`
module _ (m v b : ℕ) where
  pub digit_low : b < 48 → None ≡ up_to m (with_digit v b)
  digit_low l = simp (lt-ltb b 48 l)

  module _ (l : 48 ≤ b) where
    pub digit-high : 57 < b → None ≡ up_to m (with_digit v b)
    digit-high u = simp (le-ltb b 48 l, lt-ltb 57 b u)

    module _ (u : b ≤ 57) where
      pub digit_large : m < more v b → None ≡ up_to m (with_digit v b)
      digit_large h = simp (le-ltb b 48 l, le-ltb 57 b u, lt-leb (more v b) m h)

      pub digit-fits : more v b ≤ m → Some (more v b) ≡ up_to m (with_digit v b)
      digit-fits h = simp (le-ltb b 48 l, le-ltb 57 b u, le-leb (more v b) m h)

  pub digit-none : IsNotAsciiDigit b → None ≡ up_to m (with_digit v b)
  digit-none (inl l) = digit_low l
  digit-none (inr u) = digit-high (omega arith) u

pub ruleset digit_steps = (digit-none, digit_large, digit-fits)

-- one digit more was taken: y is the number with it
pub record Taken (m v b y : ℕ) : Type 0 where
  pub is : y ≡ more v b
  pub small : y ≤ m
  pub low : 48 ≤ b
  pub high : b ≤ 57

-- beyond m, or no number
pub data Over (m : ℕ) : Number → Type 0 where
  value : {v : ℕ} → m < v → Over m (Some v)
  none : Over m None

pub over : {m : ℕ} {n : Number} → Over m n → up_to m n ≡ None
over {m} (value {v} h) = simp (lt-leb v m h)
over none = refl

module _ (m : ℕ) where
  pub either : (t : Bool) {x y : Number} → Over m x → Over m y → Over m (pick t x y)
  either true p q = p
  either false p q = q

module _ (m v b : ℕ) (r : Number) (q : r ≡ up_to m (with_digit v b)) where
  pub taken : (y : ℕ) → r ≡ Some y → Taken m v b y
  taken y e = go (ltb b 48) (ltb 57 b) refl refl (sym q ∙ e)
    where
      fit : (w : Bool) → leb (more v b) m ≡ w → ltb b 48 ≡ false → ltb 57 b ≡ false
          → pick w (Some (more v b)) None ≡ Some y → Taken m v b y
      fit false ew et eu p = absurd (unequal y p)
      fit true ew et eu p =
          let is' : y ≡ more v b = cc in
          record {
            is = is';
            small = omega (arith, leb-true (more v b) m ew);
            low = ltb-false b 48 et;
            high =
                ltb-false 57 b eu;
          }

      go : (t u : Bool) → ltb b 48 ≡ t → ltb 57 b ≡ u
          → up_to m (pick t None (pick u None (Some (more v b)))) ≡ Some y → Taken m v b y
      go true u et eu p = absurd (unequal y p)
      go false true et eu p = absurd (unequal y p)
      go false false et eu p = fit (leb (more v b) m) refl et eu p

  pub taken-small : (y : ℕ) → r ≡ Some y → y ≤ m
  taken-small y e = (taken y e).small

  -- no digit, or too large a number with it; then so is z, which comes of that number
  pub lost : r ≡ None → (z : Number) → (m < more v b → Over m z) → up_to m (if_digit b then z) ≡ None
  lost e z big = go (ltb b 48) (ltb 57 b) (sym q ∙ e)
    where
      fit : (w : Bool) → leb (more v b) m ≡ w → pick w (Some (more v b)) None ≡ None
          → up_to m z ≡ None
      fit true ew p = absurd (unequal (more v b) (sym p))
      fit false ew p = over (big (leb-false (more v b) m ew))

      go : (t u : Bool) → up_to m (pick t None (pick u None (Some (more v b)))) ≡ None
          → up_to m (pick t None (pick u None z)) ≡ None
      go true u p = refl
      go false true p = refl
      go false false p = fit (leb (more v b) m) refl p

-- zeros behind x
grows : (x j : ℕ) → x ≤ x * 10 ^ j
grows x j = le-mul_of_pos_right x (one-le-pow j 10 (omega arith))

pub scaled-over : (m x j : ℕ) → m < x → Over m (scaled_by x j)
scaled-over m x j h = value {v = x * 10 ^ j} (omega (arith, grows x j))

one-zero : (x j : ℕ) → 0 < j → x * 10 * 10 ^ (j - 1) ≡ x * 10 ^ j
one-zero x zero h = absurd (omega arith)
one-zero x (suc j) h =
    let e : suc j - 1 ≡ j = omega arith in
    rw e (mul_assoc x 10 (10 ^ j) ∙ ap (λ (k : ℕ). x * k) (sym (pow-succ' 10 j)))

-- i of k zeros stand behind x already
module _ (m x k i val : ℕ) (inv : x * 10 ^ (k - i) ≡ val) where
  module _ (h : i < k) (r : Number) (q : r ≡ up_to m (with_digit x 48)) where
    pub scaled-more : (y : ℕ) → r ≡ Some y → y * 10 ^ (k - (i + 1)) ≡ val
    scaled-more y e =
        let p : y ≡ x * 10 = omega (arith, (taken m x 48 r q y e).is) in
        let n : k - (i + 1) ≡ k - i - 1 = omega arith in
        rw (p, n) (one-zero x (k - i) (omega arith) ∙ inv)

    pub scaled-stop : r ≡ None → None ≡ up_to m (Some val)
    scaled-stop e = sym (lost m x 48 r q e (Some val)
        (λ b. value (omega (arith, grows (x * 10) (k - i - 1), one-zero x (k - i) (omega arith)))))

  pub scaled-end : k ≤ i → x ≤ m → Some x ≡ up_to m (Some val)
  scaled-end h l =
      let z : k - i ≡ 0 = omega arith in
      let e : x ≡ val = sym (mul-one x) ∙ ap (λ (n : ℕ). x * 10 ^ n) (sym z) ∙ inv in
      rw (← e) (simp (le-leb x m l))

pub ruleset scaled_steps = (taken-small, scaled-more, scaled-stop, scaled-end)

-- what is too large already stays so, whatever follows
fraction-over : (k m v : ℕ) (rest : List ℕ) → m < v → Over m (fraction_from k v rest)
unfolding fraction_from
fraction-over k m v [] h = scaled-over m v k h
fraction-over k m v (b ∷ rest) h =
    either m (eqb k 0) none
    (either m (ltb b 48) none (either m (ltb 57 b) none (fraction-over (k - 1) m (more v b) rest (omega arith))))

pub point-over : (d m v : ℕ) (rest : List ℕ) → m < v → Over m (point_from d v rest)
unfolding point_from
point-over d m v [] h = none
point-over d m v (b ∷ rest) h = fraction-over d m v (b ∷ rest) h

-- behind the point
module _ (s : List ℕ) (i k m x : ℕ) (X : Number) (inv : up_to m (fraction_from k x (drop i s)) ≡ X) where
  pub fraction_end : length s ≤ i → (r : Number) → r ≡ up_to m (scaled_by x k) → r ≡ X
  unfolding fraction_from
  fraction_end h r q = q ∙ (simp (rest_end s i h, fraction_from) at inv)

  module _ (h : i < length s) where
    pub fraction-full : k ≡ 0 → None ≡ X
    unfolding fraction_from
    fraction-full e = simp (rest_at s i h, fraction_from, eq-eqb k 0 e) at inv

    module _ (n : k ≡ 0 → ⊥) (r : Number) (q : r ≡ up_to m (with_digit x (get_or s i 0))) where
      fraction-going
          : up_to m (if_digit (get_or s i 0) then fraction_from (k - 1) (more x (get_or s i 0)) (drop (i + 1) s)) ≡ X
      unfolding fraction_from
      fraction-going = simp (rest_at s i h, fraction_from, ne_eqb k 0 n) at inv

      pub fraction-more : (y : ℕ) → r ≡ Some y → up_to m (fraction_from (k - 1) y (drop (i + 1) s)) ≡ X
      fraction-more y e =
          let t = taken m x (get_or s i 0) r q y e in
          rw t.is (simp (le-ltb _ _ t.low, le-ltb _ _ t.high) at fraction-going)

      pub fraction-stop : r ≡ None → None ≡ X
      fraction-stop e = sym (lost m x (get_or s i 0) r q e _ (fraction-over (k - 1) m _ (drop (i + 1) s)))
          ∙ fraction-going

pub ruleset fraction_steps = (taken-small, fraction_end, fraction-full, fraction-more, fraction-stop)

module _ (s : List ℕ) (at d m v : ℕ) where
  pub point-none : length s ≤ at → None ≡ up_to m (point_from d v (drop at s))
  unfolding point_from
  point-none h = simp (rest_end s at h, point_from)

  pub point-some : at < length s → (r : Number) → r ≡ up_to m (fraction_from d v (drop at s))
      → r ≡ up_to m (point_from d v (drop at s))
  unfolding point_from
  point-some h r q = q ∙ simp (rest_at s at h, point_from)

pub ruleset point_steps = (point-none, point-some)

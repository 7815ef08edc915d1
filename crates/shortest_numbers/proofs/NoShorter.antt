-- No text that is the number is shorter than its shortest form. Assumes nothing.
use Prim.Native.Nat.{ℕ, zero, suc, ◌+◌, ◌-◌, ◌*◌, ◌/◌, ◌%◌, ◌^◌, ◌≤◌, ◌<◌}
use mathlib.Core.Path.{◌≡◌, refl, sym, ap, ◌∙◌}
use mathlib.Core.Bool.{Bool, true, false}
use mathlib.Core.List.{List, ◌∷◌, ◌++◌}
use native.Mathlib.Nat.{
  pow-suc,
  pow-succ',
  mul-one,
  mul_assoc,
  add-zero,
  suc-add,
  one-mul,
  mul-mod_left,
  mul-div_cancel,
  mul-le-mul_right,
  div-eq_of_lt-le,
}
use native.Mathlib.Omega.{arith}
use lib.Dec.{eqb}
use lib.ListN.{length, length-append}
use Rattle.base.specs.Pick.{pick}
use Rattle.base.specs.Text.{bytes}
use Rattle.numbers.specs.Numbers.{Digits, Whole, IsNumber, value, value_from}
use Rattle.numbers.proofs.Agrees.{value-append}
use Rattle.decimal.specs.Writing.{width}
use Rattle.decimal.proofs.Widths.{lowest-length, whole_length, width-below}
use Rattle.shortest_numbers.specs.Shortest.{pointed, shortest}
use Rattle.shortest_numbers.proofs.Written.{tenths}

-- ---- digits behind a number lie between it and the next, as many places up

from-below : (v : ℕ) {ds : List ℕ} → Digits ds → v * 10 ^ length ds ≤ value_from v ds
from-below v Digits.none = omega (arith, mul-one v)
from-below v (Digits.more {b} {ds} g gs) =
    let n = 10 ^ length ds in
    let x = b - 48 in
    let e : v * 10 ^ suc (length ds) ≡ v * 10 * n =
    ap (λ (p : ℕ). v * p) (pow-succ' 10 (length ds)) ∙ sym (mul_assoc v 10 n) in
    let h : v * 10 * n ≤ (v * 10 + x) * n = mul-le-mul_right n (omega arith) in
    omega (arith, e, h, from-below (v * 10 + x) gs)

from-above : (v : ℕ) {ds : List ℕ} → Digits ds → value_from v ds < (v + 1) * 10 ^ length ds
from-above v Digits.none = omega (arith, mul-one (v + 1))
from-above v (Digits.more {b} {ds} g gs) =
    let n = 10 ^ length ds in
    let x = b - 48 in
    let e : (v + 1) * 10 ^ suc (length ds) ≡ (v + 1) * 10 * n =
    ap (λ (p : ℕ). (v + 1) * p) (pow-succ' 10 (length ds)) ∙ sym (mul_assoc (v + 1) 10 n) in
    let h : (v * 10 + x + 1) * n ≤ (v + 1) * 10 * n = mul-le-mul_right n (omega (arith, g.high)) in
    omega (arith, e, h, from-above (v * 10 + x) gs)

-- ---- so a whole part has no fewer digits than its number, and is the number without what stands behind the point

whole-digits : {w : List ℕ} → Whole w → Digits w
whole-digits Whole.nought = Digits.more {b = 48} (record { low = omega arith; high = omega arith }) Digits.none
whole-digits (Whole.some g z gs) = Digits.more g gs

width-most : {w : List ℕ} → Whole w → width (value w) ≤ length w
width-most h = go (whole-digits h) h
  where
    go : {w : List ℕ} → Digits w → Whole w → width (value w) ≤ length w
    go Digits.none h = absurd (elim h [ ])
    go (Digits.more {b} {ds} g gs) h =
        width-below (length ds) (value (b ∷ ds)) (omega (
          arith,
          one-mul (10 ^ suc (length ds)),
          from-above 0 (Digits.more g gs),
        ))

whole_part : (w : List ℕ) {f : List ℕ} → Digits f → value (w ++ f) / 10 ^ length f ≡ value w
whole_part w {f} ds =
    div-eq_of_lt-le (10 ^ length f) (omega (arith, value-append 0 w f, from-below (value w) ds))
    (omega (arith, value-append 0 w f, from-above (value w) ds))

-- ---- the shortest form

-- zeros behind a number say nothing
pub no-zeros : (j k u : ℕ) → shortest (j + k) (u * 10 ^ j) ≡ shortest k u
unfolding shortest
no-zeros zero k u = let z : 0 + k ≡ k = omega arith in rw (z, mul-one u)
no-zeros (suc j) k u =
    let e : u * 10 ^ suc j ≡ u * 10 ^ j * 10 = ap (λ (p : ℕ). u * p) (pow-suc 10 j) ∙ sym (mul_assoc u (10 ^ j) 10) in
    rw (suc-add j k, e, mul-mod_left (u * 10 ^ j) 10) (
    ap (shortest (j + k)) (mul-div_cancel (u * 10 ^ j) {n = 10} (omega arith)) ∙ no-zeros j k u)

pub pointed-length : (d v : ℕ) → length (pointed d v) ≡ width (v / 10 ^ d) + 1 + d
unfolding pointed
pointed-length d v = simp length-append (omega (arith, whole_length (v / 10 ^ d), lowest-length d v))

either-most : (d v : ℕ) (t : Bool) → length (shortest d (v / 10)) ≤ width (v / 10 ^ suc d) + 1 + suc d
    → length (pick t (shortest d (v / 10)) (pointed (suc d) v)) ≤ width (v / 10 ^ suc d) + 1 + suc d
either-most d v true h = h
either-most d v false h = omega (arith, pointed-length (suc d) v)

pub shortest-most : (d v : ℕ) → length (shortest (suc d) v) ≤ width (v / 10 ^ suc d) + 1 + suc d
unfolding shortest
shortest-most zero v = either-most zero v (eqb (v % 10) 0) (omega (arith, whole_length (v / 10)))
shortest-most (suc k) v =
    either-most (suc k) v (eqb (v % 10) 0)
    (omega (arith, shortest-most k (v / 10), ap width (tenths v (suc k))))

pub no_shorter : {t : List ℕ} {d v : ℕ} → IsNumber t d v → length (shortest d v) ≤ length t
unfolding shortest
no_shorter (IsNumber.whole {w} {d} h) =
    omega (
      arith,
      ap (λ (n : ℕ). length (shortest n (value w * 10 ^ d))) (sym (add-zero d)),
      ap length (no-zeros d 0 (value w)),
      whole_length (value w),
      width-most h,
    )
no_shorter (IsNumber.pointed {w} {f} {d} h ds some few) = go (length f) refl some
  where
    u : ℕ
    u = value (w ++ f)

    go : (n : ℕ) → length f ≡ n → 0 < n → length (shortest d (u * 10 ^ (d - length f))) ≤ length (w ++ bytes "." ++ f)
    go zero e o = absurd (omega arith)
    go (suc k) e o =
        let j = d - length f in
        let z : d ≡ j + suc k = omega arith in
        omega (
          arith,
          ap (λ (n : ℕ). length (shortest n (u * 10 ^ j))) z,
          ap length (no-zeros j (suc k) u),
          shortest-most k u,
          ap (λ (n : ℕ). width (u / 10 ^ n)) (sym e),
          ap width (whole_part w ds),
          width-most h,
          length-append (w ++ bytes ".") f,
          length-append w (bytes "."),
        )

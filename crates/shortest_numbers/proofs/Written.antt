-- A number in its shortest form reads as the number. Assumes nothing.
use Prim.Native.Nat.{ℕ, zero, suc, ◌+◌, ◌-◌, ◌*◌, ◌/◌, ◌%◌, ◌^◌}
use mathlib.Core.Path.{◌≡◌, refl, sym, ap, ◌∙◌}
use mathlib.Core.Bool.{Bool, true, false}
use mathlib.Core.List.{List, [], ◌∷◌, ◌++◌, append_assoc, append-nil}
use native.Mathlib.Nat.{pow-suc, pow-succ', mul-one, mul_assoc, div-one, div-div-eq-div-mul}
use native.Mathlib.Omega.{arith}
use borrow.Author.Tests.{eqb-true}
use lib.Dec.{eqb}
use lib.ListN.{length}
use Rattle.base.specs.Pick.{pick}
use Rattle.numbers.specs.Numbers.{IsNumber, value}
use Rattle.numbers.proofs.Agrees.{same_number, value-append}
use Rattle.decimal.specs.Writing.{lowest, width, whole_of}
use Rattle.decimal.proofs.Widths.{lowest-length}
use Rattle.decimal.proofs.Written.{lowest-digits, lowest-value, wide, whole_from_lem, whole-number}
use Rattle.shortest_numbers.specs.Shortest.{pointed, shortest}

-- ---- a number where one decimal more is allowed

wider : {t : List ℕ} {d u : ℕ} → IsNumber t d u → IsNumber t (suc d) (u * 10)
wider (IsNumber.whole {w} {d} h) =
    same_number refl (ap (λ (n : ℕ). value w * n) (pow-suc 10 d) ∙ sym (mul_assoc (value w) (10 ^ d) 10))
    (IsNumber.whole {d = suc d} h)
wider (IsNumber.pointed {w} {f} {d} h ds some few) =
    let e : suc d - length f ≡ suc (d - length f) = omega arith in
    let p = 10 ^ (d - length f) in
    same_number refl
    (ap (λ (n : ℕ). value (w ++ f) * 10 ^ n) e ∙ ap (λ (n : ℕ). value (w ++ f) * n) (pow-suc 10 (d - length f))
    ∙ sym (mul_assoc (value (w ++ f)) p 10))
    (IsNumber.pointed {d = suc d} h ds some (omega arith))

-- ---- the whole part and the decimals have the value

whole-value : (n : ℕ) → value (whole_of n) ≡ n
unfolding whole_of
whole-value n = lowest-value (width n) n (wide n n (omega arith))

pub tenths : (n k : ℕ) → n / 10 ^ suc k ≡ n / 10 / 10 ^ k
tenths n k = rw (pow-succ' 10 k) (sym (div-div-eq-div-mul n 10 (10 ^ k)))

both-value : (k n : ℕ) → value (whole_of (n / 10 ^ k) ++ lowest k n) ≡ n
both-value zero n = rw (append-nil, div-one n) (whole-value n)
both-value (suc k) n =
    let w = whole_of (n / 10 / 10 ^ k) in
    let ds = lowest k (n / 10) in
    let last = (48 + n % 10) ∷ [] in
    ap (λ (x : ℕ). value (whole_of x ++ (ds ++ last))) (tenths n k)
    ∙ ap value (sym (append_assoc w ds last))
    ∙ value-append 0 (w ++ ds) last
    ∙ omega (arith, both-value k (n / 10))

pub pointed-number : (d v : ℕ) → IsNumber (pointed (suc d) v) (suc d) v
unfolding pointed
pointed-number d v =
    let e : suc d - length (lowest (suc d) v) ≡ 0 = omega (arith, lowest-length (suc d) v) in
    same_number refl
    (ap (λ (n : ℕ). value (whole_of (v / 10 ^ suc d) ++ lowest (suc d) v) * 10 ^ n) e ∙ mul-one _
    ∙ both-value (suc d) v)
    (IsNumber.pointed (whole_from_lem (v / 10 ^ suc d)) (lowest-digits (suc d) v)
    (omega (arith, lowest-length (suc d) v)) (omega (arith, lowest-length (suc d) v)))

-- A number that is written in its shortest form reads as itself.
pub shortest-number : (d v : ℕ) → IsNumber (shortest d v) d v
unfolding shortest
shortest-number zero v = whole-number v
shortest-number (suc d) v = go (eqb (v % 10) 0) refl (wider (shortest-number d (v / 10)))
  where
    go : (t : Bool) → eqb (v % 10) 0 ≡ t → IsNumber (shortest d (v / 10)) (suc d) (v / 10 * 10)
        → IsNumber (pick t (shortest d (v / 10)) (pointed (suc d) v)) (suc d) v
    go true e h = same_number refl (omega (arith, eqb-true (v % 10) 0 e)) h
    go false e h = pointed-number d v

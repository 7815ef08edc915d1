-- How long what is written for a value that fits its input can be. Assumes nothing.
use Prim.Native.Nat.{ℕ, zero, suc, ◌+◌, ◌-◌, ◌*◌, ◌/◌, ◌%◌, ◌^◌, ◌≤◌, ◌<◌, max}
use Prim.Native.String.{String}
use mathlib.Core.Path.{◌≡◌, refl, sym, ap, ◌∙◌}
use mathlib.Core.Bool.{Bool, true, false}
use mathlib.Core.List.{List, [], ◌∷◌}
use native.Mathlib.Nat.{
  pow-suc,
  add-zero,
  one-le-pow,
  div-add-mod',
  div-mul-le_self,
  le-div_iff_mul-le,
  add-div_right,
  le-max_left,
  le-max_right,
}
use native.Mathlib.Omega.{arith}
use borrow.Author.Tests.{leb-true, eqb-true, eqb-false}
use lib.Dec.{eqb}
use lib.IntN.{ℤ, nat_abs}
use lib.ListN.{length, get_or}
use Rattle.base.specs.Pick.{pick}
use Rattle.base.specs.Text.{bytes}
use Rattle.base.proofs.Clash.{clash}
use Rattle.decimal.specs.Writing.{width, whole_of}
use Rattle.decimal.proofs.Widths.{whole_length, width_small, width-below}
use Rattle.decimal.proofs.Written.{wide}
use Rattle.kilogram_text.proofs.Signs.{sign-short}
use Rattle.shortest_numbers.specs.Shortest.{shortest}
use Rattle.shortest_numbers.proofs.NoShorter.{no-zeros, shortest-most}
use Rattle.names.specs.Names.{names_of}
use Rattle.word_texts.specs.Words.{name_text}
use Rattle.inputs.specs.declared.Form.{Form}
use Rattle.inputs.specs.declared.Form.TheVariants.{Number, OrStandard, NoStandard, Signed as ASigned, OneOf}
use Rattle.farm.specs.declared.Given.{Given}
use Rattle.farm.specs.declared.Given.TheVariants.{Missing, Standard, Value, Signed}
use Rattle.fits.specs.Fits.{fits}
use Rattle.value_texts.specs.Values.{number_text, signed_text, value_text}
use Rattle.value_texts.proofs.Puts.{signed-length}

-- ---- the digits of a smaller number, and of the next one

width_mono : (a b : ℕ) → a ≤ b → width a ≤ width b
width_mono a b h = go (width b) refl (wide b b (omega arith))
  where
    go : (w : ℕ) → width b ≡ w → b < 10 ^ width b → width a ≤ width b
    go zero e l =
        let n : b < 1 = rw e at l in
        omega (arith, width_small b (omega (arith, n)), e)
    go (suc k) e l =
        let n : b < 10 ^ suc k = rw e at l in
        omega (arith, width-below k a (omega (arith, n, h)), e)

width-next : (n : ℕ) → width (n + 1) ≤ width n + 1
width-next n =
    let p = 10 ^ width n in
    omega (
      arith,
      width-below (width n) (n + 1)
          (omega (arith, wide n n (omega arith), pow-suc 10 (width n), one-le-pow (width n) 10 (omega arith))),
    )

div_mono : (a b : ℕ) {k : ℕ} → 0 < k → a ≤ b → a / k ≤ b / k
div_mono a b {k} o h = (le-div_iff_mul-le {k = k} {x = a / k} {y = b} o).1 (omega (arith, div-mul-le_self a k))

-- ---- a number up to m with d decimals: one that has a digit behind its point is none that has none

abbrev largest_pointed : ℕ → ℕ → ℕ
largest_pointed d m = pick (eqb (m % 10 ^ d) 0) (m - 1) m

abbrev pub number_most : ℕ → ℕ → ℕ
number_most zero m = width m
number_most (suc d) m = width (largest_pointed (suc d) m / 10 ^ suc d) + 1 + suc d

-- the largest of these is m or the number before it
near : (d m : ℕ) → m ≤ largest_pointed d m + 1
near d m = go (eqb (m % 10 ^ d) 0)
  where
    go : (t : Bool) → m ≤ pick t (m - 1) m + 1
    go true = omega arith
    go false = omega arith

pointed-within : (d m v : ℕ) → v ≤ m → (v % 10 ^ d ≡ 0 → ⊥) → v ≤ largest_pointed d m
pointed-within d m v h n = go (eqb (m % 10 ^ d) 0) refl
  where
    go : (t : Bool) → eqb (m % 10 ^ d) 0 ≡ t → v ≤ pick t (m - 1) m
    go true e =
        let whole = eqb-true (m % 10 ^ d) 0 e in
        let other : v ≡ m → ⊥ = λ same. n (ap (λ (x : ℕ). x % 10 ^ d) same ∙ whole) in
        omega (arith, h, other)
    go false e = h

power : (d : ℕ) → 0 < 10 ^ d
power d = one-le-pow d 10 (omega arith)

module _ (d m v : ℕ) (h : v ≤ m) where
  whole-most : v % 10 ^ suc d ≡ 0 → length (shortest (suc d) v) ≤ number_most (suc d) m
  unfolding shortest
  whole-most e =
      let p = 10 ^ suc d in
      let u = v / p in
      let is : v ≡ u * p = omega (arith, e, div-add-mod' v p) in
      let cut : shortest (suc d) v ≡ whole_of u =
      ap (shortest (suc d)) is ∙ ap (λ (n : ℕ). shortest n (u * p)) (sym (add-zero (suc d))) ∙ no-zeros (suc d) 0 u in
      let l = largest_pointed (suc d) m in
      let next : u ≤ l / p + 1 = omega (
        arith,
        div_mono v (l + p) (power (suc d)) (omega (arith, h, near (suc d) m, power (suc d))),
        add-div_right l {k = p} (power (suc d)),
      ) in
      omega (arith, ap length cut, whole_length u, width_mono u (l / p + 1) next, width-next (l / p))

  pointed-most : (v % 10 ^ suc d ≡ 0 → ⊥) → length (shortest (suc d) v) ≤ number_most (suc d) m
  pointed-most n =
      let p = 10 ^ suc d in
      let l = largest_pointed (suc d) m in
      omega (
        arith,
        shortest-most d v,
        width_mono (v / p) (l / p) (div_mono v l (power (suc d)) (pointed-within (suc d) m v h n)),
      )

pub number-most : (d m v : ℕ) → v ≤ m → length (shortest d v) ≤ number_most d m
unfolding shortest
number-most zero m v h = omega (arith, whole_length v, width_mono v m h)
number-most (suc d) m v h = go (eqb (v % 10 ^ suc d) 0) refl
  where
    go : (t : Bool) → eqb (v % 10 ^ suc d) 0 ≡ t → length (shortest (suc d) v) ≤ number_most (suc d) m
    go true e = whole-most d m v h (eqb-true (v % 10 ^ suc d) 0 e)
    go false e = pointed-most d m v h (eqb-false (v % 10 ^ suc d) 0 e)

-- ---- a number that may be below zero, and a name

signed-most : (m : ℕ) (v : ℤ) → nat_abs v ≤ m → length (signed_text v) ≤ 1 + width m
signed-most m v h =
    omega (arith, signed-length v, sign-short v, whole_length (nat_abs v), width_mono (nat_abs v) m h)

abbrev pub longest_of : List String → ℕ
longest_of [] = 0
longest_of (name ∷ names) = max (length (bytes name)) (longest_of names)

name-most : (names : List String) (place : ℕ) → length (bytes (get_or names place "")) ≤ longest_of names
name-most [] place = omega arith
name-most (name ∷ names) zero = le-max_left (length (bytes name)) (longest_of names)
name-most (name ∷ names) (suc place) =
    omega (arith, name-most names place, le-max_right (length (bytes name)) (longest_of names))

-- ---- a value, by the form of its input

abbrev pub value_most : Form → ℕ
value_most (Number d m) = number_most d m
value_most (OrStandard d m) = max (length (bytes "standard")) (number_most d m)
value_most (NoStandard d m) = number_most d m
value_most (ASigned m) = 1 + width m
value_most (OneOf names) = longest_of (names_of names)

pub value-most : (form : Form) (given : Given) → fits form given ≡ true
    → length (value_text form given) ≤ value_most form
unfolding value_text number_text name_text
value-most form Missing e = omega arith
value-most (Number d m) Standard e = clash cc
value-most (OrStandard d m) Standard e = le-max_left 8 (number_most d m)
value-most (NoStandard d m) Standard e = clash cc
value-most (ASigned m) Standard e = clash cc
value-most (OneOf names) Standard e = clash cc
value-most (Number d m) (Value v) e = number-most d m v (leb-true v m e)
value-most (OrStandard d m) (Value v) e =
    omega (arith, number-most d m v (leb-true v m e), le-max_right 8 (number_most d m))
value-most (NoStandard d m) (Value v) e = number-most d m v (leb-true v m e)
value-most (ASigned m) (Value v) e = clash cc
value-most (OneOf names) (Value v) e = name-most (names_of names) v
value-most (Number d m) (Signed v) e = clash cc
value-most (OrStandard d m) (Signed v) e = clash cc
value-most (NoStandard d m) (Signed v) e = clash cc
value-most (ASigned m) (Signed v) e = signed-most m v (leb-true (nat_abs v) m e)
value-most (OneOf names) (Signed v) e = clash cc

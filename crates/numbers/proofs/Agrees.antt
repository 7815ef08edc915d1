-- Reading takes just the numbers of `Numbers` that are at most the largest allowed, each with its value, and a text has
-- one value at most. Assumes nothing.
use Rattle.std.specs.Prelude.{None, Some}
use Prim.Native.Nat.{ℕ, suc, ◌-◌, ◌*◌, ◌^◌, ◌<◌, ◌≤◌}
use mathlib.Core.List.{List, [], ◌∷◌, ◌++◌}
use mathlib.Core.Bool.{Bool, true, false}
use mathlib.Core.Logic.{◌↔◌}
use mathlib.Core.Path.{◌≡◌, refl, sym, ap, ◌∙◌, subst}
use lib.Dec.{eqb, ltb, leb}
use lib.ListN.{length}
use lib.Seq.{append_snoc}
use native.Mathlib.Omega.{arith}
use native.Mathlib.Nat.{zero-mul, sub-zero}
use borrow.Author.Tests.{ne_eqb, le-leb, le-ltb, ltb-false, leb-true, eqb-true, eqb-false}
use Rattle.base.specs.Pick.{pick}
use Rattle.numbers.specs.Numbers.{Digit, Digits, Whole, IsNumber, value_from}
use Rattle.numbers.specs.Reading.{whole_from, zero_from, any_number_of, number_of}
use Rattle.digits.specs.Digits.{if_digit◌then◌, more, fraction_from, point_from, up_to, Number}
use Rattle.digits.proofs.Steps.{unequal}

-- from the text's bytes to what was read: every number is read, with its value
pub value-append : (v : ℕ) (a b : List ℕ) → value_from v (a ++ b) ≡ value_from (value_from v a) b
value-append v [] b = refl
value-append v (x ∷ a) b = value-append (more v x) a b

digit-taken : {b : ℕ} → Digit b → (x : Number) → (if_digit b then x) ≡ x
digit-taken {b} g x = simp (le-ltb b 48 g.low, le-ltb 57 b g.high)

no-point : {b : ℕ} → Digit b → eqb b 46 ≡ false
no-point {b} g = ne_eqb b 46 (λ e. omega (arith, g.low))

whole-digits : (d v : ℕ) {ds : List ℕ} → Digits ds → whole_from d v ds ≡ Some (value_from v ds * 10 ^ d)
unfolding whole_from
whole-digits d v Digits.none = refl
whole-digits d v (Digits.more {b} {ds} g gs) = rw (no-point g) (digit-taken g _ ∙ whole-digits d (more v b) gs)

whole-pointed : (d v : ℕ) (f : List ℕ) {ds : List ℕ} → Digits ds
    → whole_from d v (ds ++ 46 ∷ f) ≡ point_from d (value_from v ds) f
unfolding whole_from
whole-pointed d v f Digits.none = refl
whole-pointed d v f (Digits.more {b} {ds} g gs) = rw (no-point g) (digit-taken g _ ∙ whole-pointed d (more v b) f gs)

fraction-digits : (k v : ℕ) {f : List ℕ} → Digits f → length f ≤ k
    → fraction_from k v f ≡ Some (value_from v f * 10 ^ (k - length f))
unfolding fraction_from
fraction-digits k v Digits.none h = rw sub-zero
fraction-digits k v (Digits.more {b} {ds = f} g gs) h =
    let e : k - suc (length f) ≡ k - 1 - length f = omega arith in
    rw (ne_eqb k 0 (λ z. omega arith), e) (digit-taken g _ ∙ fraction-digits (k - 1) (more v b) gs (omega arith))

point-digits : (d v : ℕ) {f : List ℕ} → Digits f → 0 < length f → length f ≤ d
    → point_from d v f ≡ Some (value_from v f * 10 ^ (d - length f))
unfolding point_from
point-digits d v Digits.none o h = absurd (omega arith)
point-digits d v (Digits.more g gs) o h = fraction-digits d v (Digits.more g gs) h

pub read_all : {s : List ℕ} {d v : ℕ} → IsNumber s d v → any_number_of s d ≡ Some v
unfolding any_number_of zero_from
read_all (IsNumber.whole {d = d} Whole.nought) = rw zero-mul
read_all (IsNumber.whole {d = d} (Whole.some {b} g n gs)) =
    rw (ne_eqb b 48 n) (digit-taken g _ ∙ whole-digits d (more 0 b) gs)
read_all (IsNumber.pointed {f = f} {d = d} Whole.nought fs o h) = point-digits d 0 fs o h
read_all (IsNumber.pointed {f = f} {d = d} (Whole.some {b} {ds} g n gs) fs o h) =
    rw (append_snoc ds 46 f, ne_eqb b 48 n, value-append (more 0 b) ds f)
    (digit-taken g _ ∙ whole-pointed d (more 0 b) f gs ∙ point-digits d (value_from (more 0 b) ds) fs o h)

-- and back: what was read is a number
digit-of : (b : ℕ) (x : Number) (w : ℕ) → (if_digit b then x) ≡ Some w → Digit b × (x ≡ Some w)
digit-of b x w e = go (ltb b 48) (ltb 57 b) refl refl e
  where
    go : (t u : Bool) → ltb b 48 ≡ t → ltb 57 b ≡ u → pick t None (pick u None x) ≡ Some w
        → Digit b × (x ≡ Some w)
    go true u et eu p = absurd (unequal w p)
    go false true et eu p = absurd (unequal w p)
    go false false et eu p = (record { low = ltb-false b 48 et; high = ltb-false 57 b eu }, p)

unless : (k : ℕ) (x : Number) (w : ℕ) → pick (eqb k 0) None x ≡ Some w → (k ≡ 0 → ⊥) × (x ≡ Some w)
unless k x w e = go (eqb k 0) refl e
  where
    go : (t : Bool) → eqb k 0 ≡ t → pick t None x ≡ Some w → (k ≡ 0 → ⊥) × (x ≡ Some w)
    go true et p = absurd (unequal w p)
    go false et p = (eqb-false k 0 et, p)

-- what was read behind the point, v having been read before
record Fraction (d v : ℕ) (f : List ℕ) (w : ℕ) : Type 0 where
  digits : Digits f
  short : length f ≤ d
  is : w ≡ value_from v f * 10 ^ (d - length f)

fraction-read : (k v : ℕ) (f : List ℕ) (w : ℕ) → fraction_from k v f ≡ Some w → Fraction k v f w
unfolding fraction_from
fraction-read k v [] w e =
    let p : w ≡ v * 10 ^ k = cc in
    record { digits = Digits.none; short = omega arith; is = p ∙ rw sub-zero }
fraction-read k v (b ∷ f) w e =
    let (n, p) = unless k _ w e in
    let (g, q) = digit-of b _ w p in
    let r = fraction-read (k - 1) (more v b) f w q in
    let z : k - 1 - length f ≡ k - suc (length f) = omega arith in
    let l : 0 < k = omega arith in
    record { digits = Digits.more g r.digits; short = omega arith; is = r.is ∙ rw z }

-- what was read of the whole part's further digits and of all that follows them
data Rest (d v : ℕ) (w : ℕ) : List ℕ → Type 0 where
  whole : {ds : List ℕ} → Digits ds → w ≡ value_from v ds * 10 ^ d → Rest d v w ds
  pointed : {ds f : List ℕ} → Digits ds → 0 < length f → Fraction d (value_from v ds) f w → Rest d v w (ds ++ 46 ∷ f)

point-read : (d v : ℕ) (f : List ℕ) (w : ℕ) → point_from d v f ≡ Some w → (0 < length f) × Fraction d v f w
unfolding point_from
point-read d v [] w e = absurd (unequal w e)
point-read d v (b ∷ f) w e = (omega arith, fraction-read d v (b ∷ f) w e)

longer : {d v w b : ℕ} {s : List ℕ} → Digit b → Rest d (more v b) w s → Rest d v w (b ∷ s)
longer g (Rest.whole gs e) = Rest.whole (Digits.more g gs) e
longer g (Rest.pointed gs o fs) = Rest.pointed (Digits.more g gs) o fs

whole-read : (d v : ℕ) (s : List ℕ) (w : ℕ) → whole_from d v s ≡ Some w → Rest d v w s
unfolding whole_from
whole-read d v [] w e = let p : w ≡ v * 10 ^ d = cc in Rest.whole Digits.none p
whole-read d v (b ∷ s) w e = go (eqb b 46) refl e (λ p. whole-read d (more v b) s w p)
  where
    go : (t : Bool) → eqb b 46 ≡ t → pick t (point_from d v s) (if_digit b then whole_from d (more v b) s) ≡ Some w
        → (whole_from d (more v b) s ≡ Some w → Rest d (more v b) w s) → Rest d v w (b ∷ s)
    go true t p ih =
        let (o, fs) = point-read d v s w p in
        subst (λ (x : ℕ). Rest d v w (x ∷ s)) (sym (eqb-true b 46 t)) (Rest.pointed Digits.none o fs)
    go false t p ih = let (g, q) = digit-of b _ w p in longer g (ih q)

-- the same number, its text and its value written otherwise
pub same_number : {s t : List ℕ} {d v w : ℕ} → s ≡ t → v ≡ w → IsNumber s d v → IsNumber t d w
same_number {s} {t} {d} {v} {w} p q n = subst (λ (x : List ℕ). IsNumber x d w) p (subst (λ (x : ℕ). IsNumber s d x) q n)

zero-read : (d : ℕ) (s : List ℕ) (w : ℕ) → zero_from d s ≡ Some w → IsNumber (48 ∷ s) d w
unfolding zero_from
zero-read d [] w e = let p : 0 ≡ w = cc in same_number refl (zero-mul (10 ^ d) ∙ p) (IsNumber.whole Whole.nought)
zero-read d (c ∷ s) w e = go (eqb c 46) refl e
  where
    go : (t : Bool) → eqb c 46 ≡ t → pick t (point_from d 0 s) None ≡ Some w → IsNumber (48 ∷ c ∷ s) d w
    go true t p =
        let (o, fs) = point-read d 0 s w p in
        same_number (ap (λ (x : ℕ). 48 ∷ x ∷ s) (sym (eqb-true c 46 t))) (sym fs.is)
        (IsNumber.pointed Whole.nought fs.digits o fs.short)
    go false t p = absurd (unequal w p)

digits-read : {b d w : ℕ} {s : List ℕ} → Digit b → (b ≡ 48 → ⊥) → Rest d (more 0 b) w s → IsNumber (b ∷ s) d w
digits-read g n (Rest.whole gs e) = same_number refl (sym e) (IsNumber.whole (Whole.some g n gs))
digits-read {b} {d} g n (Rest.pointed {ds} {f} gs o fs) =
    same_number (ap (λ (x : List ℕ). b ∷ x) (append_snoc ds 46 f))
    (ap (λ (x : ℕ). x * 10 ^ (d - length f)) (value-append (more 0 b) ds f) ∙ sym fs.is)
    (IsNumber.pointed (Whole.some g n gs) fs.digits o fs.short)

pub read_only : (s : List ℕ) (d v : ℕ) → any_number_of s d ≡ Some v → IsNumber s d v
unfolding any_number_of
read_only [] d v e = absurd (unequal v e)
read_only (b ∷ s) d v e = go (eqb b 48) refl e
  where
    go : (t : Bool) → eqb b 48 ≡ t → pick t (zero_from d s) (if_digit b then whole_from d (more 0 b) s) ≡ Some v
        → IsNumber (b ∷ s) d v
    go true t p = subst (λ (x : ℕ). IsNumber (x ∷ s) d v) (sym (eqb-true b 48 t)) (zero-read d s v p)
    go false t p = let (g, q) = digit-of b _ v p in digits-read g (eqb-false b 48 t) (whole-read d (more 0 b) s v q)

in_range : (m : ℕ) (n : Number) (v : ℕ) → up_to m n ≡ Some v → (n ≡ Some v) × (v ≤ m)
in_range m None v e = absurd (unequal v e)
in_range m (Some x) v e = go (leb x m) refl e
  where
    go : (t : Bool) → leb x m ≡ t → pick t (Some x) None ≡ Some v → (Some x ≡ Some v) × (v ≤ m)
    go true t p = let q : x ≡ v = cc in (p, omega (arith, leb-true x m t))
    go false t p = absurd (unequal v p)

-- A text is read as v just where it is a number with the value v, and v is in range.
pub number_iff : (s : List ℕ) (d m v : ℕ) → (number_of s d m ≡ Some v) ↔ (IsNumber s d v × (v ≤ m))
unfolding number_of
number_iff s d m v = (
  λ e. let (p, h) = in_range m (any_number_of s d) v e in (read_only s d v p, h),
  λ n. rw (read_all n.0) (simp (le-leb v m n.1)),
)

-- It is unreadable just where it is no number with a value in range.
pub unreadable_iff : (s : List ℕ) (d m : ℕ) → (number_of s d m ≡ None) ↔ ((v : ℕ) → IsNumber s d v → v ≤ m → ⊥)
unreadable_iff s d m = (
  λ e v n h. unequal v (sym e ∙ (number_iff s d m v).1 (n, h)),
  λ none. go none (number_of s d m) refl,
)
  where
    go : ((v : ℕ) → IsNumber s d v → v ≤ m → ⊥) → (r : Number) → number_of s d m ≡ r → r ≡ None
    go none None e = refl
    go none (Some v) e = let (n, h) = (number_iff s d m v).0 e in absurd (none v n h)

-- A text has at most one value.
pub one_value : {s : List ℕ} {d v w : ℕ} → IsNumber s d v → IsNumber s d w → v ≡ w
one_value a b = let e = sym (read_all a) ∙ read_all b in cc

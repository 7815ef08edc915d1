-- A text is read as a date exactly where it is one, and has one date at most. Assumes nothing.
use Prim.Native.Nat.{ℕ, ◌+◌, ◌-◌, ◌*◌}
use mathlib.Core.Path.{◌≡◌, refl, sym, ap, subst, ◌∙◌}
use mathlib.Core.Logic.{◌↔◌}
use mathlib.Core.Bool.{Bool, true, false}
use mathlib.Core.List.{List, [], ◌∷◌, ◌++◌}
use native.Mathlib.Omega.{arith}
use lib.Dec.{eqb}
use lib.ListN.{length}
use borrow.Author.Tests.{eqb-true, le-ltb}
use Rattle.base.specs.Pick.{pick}
use Rattle.base.proofs.Clash.{clash}
use Rattle.numbers.specs.Numbers.{Digit, Digits, value}
use Rattle.calendar.specs.declared.Date.{Date}
use Rattle.std.specs.Prelude.{Option, Some, None}
use Rattle.calendar.specs.Calendar.{date}
use Rattle.dates.specs.Texts.{IsDate, is}
use Rattle.dates.specs.Reading.{if_digit, pair_of, date_by, date_of}
use Rattle.dates.proofs.DateSteps.{digit-spelled}

-- ---- lists of so many

data Two : List ℕ → Type 0 where
  two : {a b : ℕ} → Digit a → Digit b → Two (a ∷ b ∷ [])

two_digits : {l : List ℕ} → Digits l → length l ≡ 2 → Two l
two_digits Digits.none e = absurd (omega arith)
two_digits (Digits.more a Digits.none) e = absurd (omega arith)
two_digits (Digits.more a (Digits.more b Digits.none)) e = two a b
two_digits (Digits.more a (Digits.more b (Digits.more c ds))) e = absurd (omega arith)

data Four : List ℕ → Type 0 where
  four : {a b c e : ℕ} → Digit a → Digit b → Digit c → Digit e → Four (a ∷ b ∷ c ∷ e ∷ [])

four-digits : {l : List ℕ} → Digits l → length l ≡ 4 → Four l
four-digits Digits.none e = absurd (omega arith)
four-digits (Digits.more a Digits.none) e = absurd (omega arith)
four-digits (Digits.more a (Digits.more b Digits.none)) e = absurd (omega arith)
four-digits (Digits.more a (Digits.more b (Digits.more c Digits.none))) e = absurd (omega arith)
four-digits (Digits.more a (Digits.more b (Digits.more c (Digits.more d Digits.none)))) e = four a b c d
four-digits (Digits.more a (Digits.more b (Digits.more c (Digits.more d (Digits.more f ds))))) e =
    absurd (omega arith)

data Ten : List ℕ → Type 0 where
  ten : {a b c e u f g v h i : ℕ} → Ten (a ∷ b ∷ c ∷ e ∷ u ∷ f ∷ g ∷ v ∷ h ∷ i ∷ [])

ten-bytes : (s : List ℕ) → length s ≡ 10 → Ten s
ten-bytes [] q = absurd (omega arith)
ten-bytes (a ∷ []) q = absurd (omega arith)
ten-bytes (a ∷ b ∷ []) q = absurd (omega arith)
ten-bytes (a ∷ b ∷ c ∷ []) q = absurd (omega arith)
ten-bytes (a ∷ b ∷ c ∷ d ∷ []) q = absurd (omega arith)
ten-bytes (a ∷ b ∷ c ∷ d ∷ e ∷ []) q = absurd (omega arith)
ten-bytes (a ∷ b ∷ c ∷ d ∷ e ∷ f ∷ []) q = absurd (omega arith)
ten-bytes (a ∷ b ∷ c ∷ d ∷ e ∷ f ∷ g ∷ []) q = absurd (omega arith)
ten-bytes (a ∷ b ∷ c ∷ d ∷ e ∷ f ∷ g ∷ h ∷ []) q = absurd (omega arith)
ten-bytes (a ∷ b ∷ c ∷ d ∷ e ∷ f ∷ g ∷ h ∷ i ∷ []) q = absurd (omega arith)
ten-bytes (a ∷ b ∷ c ∷ d ∷ e ∷ f ∷ g ∷ h ∷ i ∷ j ∷ []) q = ten
ten-bytes (a ∷ b ∷ c ∷ d ∷ e ∷ f ∷ g ∷ h ∷ i ∷ j ∷ k ∷ s) q = absurd (omega arith)

-- ---- what digits spell

digit-is : {b : ℕ} → Digit b → (x : Option ℕ) → if_digit b x ≡ x
digit-is {b} g x = simp (le-ltb b 48 g.low, le-ltb 57 b g.high)

module _ {a b : ℕ} where
  pair_complete : Digit a → Digit b → pair_of a b ≡ Some (value (a ∷ b ∷ []))
  unfolding pair_of
  pair_complete x y =
      let v : (a - 48) * 10 + (b - 48) ≡ value (a ∷ b ∷ []) = omega arith in
      digit-is x (if_digit b (Some ((a - 48) * 10 + (b - 48)))) ∙ digit-is y (Some ((a - 48) * 10 + (b - 48)))
      ∙ ap Some v

-- what a pair spells
record Spells (a b v : ℕ) : Type 0 where
  one : Digit a
  other : Digit b
  is : value (a ∷ b ∷ []) ≡ v

pair-sound : (a b v : ℕ) → pair_of a b ≡ Some v → Spells a b v
unfolding pair_of
pair-sound a b v q =
    digit-spelled a (if_digit b (Some ((a - 48) * 10 + (b - 48)))) v q (λ la ha f.
    digit-spelled b (Some ((a - 48) * 10 + (b - 48))) v f (λ lb hb g.
    let w : (a - 48) * 10 + (b - 48) ≡ v = cc in
    record { one = record { low = la; high = ha }; other = record { low = lb; high = hb }; is = omega arith }))

four-value : (a b c d x y : ℕ) → value (a ∷ b ∷ []) ≡ x → value (c ∷ d ∷ []) ≡ y
    → value (a ∷ b ∷ c ∷ d ∷ []) ≡ x * 100 + y
four-value a b c d x y p q = omega arith

-- ---- dates

ten_complete : {y m d : List ℕ} → Four y → Two m → Two d
    → date_of (y ++ (45 ∷ []) ++ m ++ (45 ∷ []) ++ d) ≡ Some (date (value y) (value m) (value d))
unfolding date_of
ten_complete (four {a} {b} {c} {e} a' b' c' e') (two {a = f} {b = g} f' g') (two {a = h} {b = i} h' i') =
    rw (pair_complete a' b', pair_complete c' e', pair_complete f' g', pair_complete h' i')
    (ap (λ (n : ℕ). Some (date n (value (f ∷ g ∷ [])) (value (h ∷ i ∷ [])))) (sym (four-value a b c e _ _ refl refl)))

date_complete : {s : List ℕ} {d : Date} → IsDate s d → date_of s ≡ Some d
date_complete (is y yl m ml d dl) = ten_complete (four-digits y yl) (two_digits m ml) (two_digits d dl)

module _ (d : Date) where
  digits-sound : {a b c e f g h i : ℕ} (w x y z : Option ℕ) → pair_of a b ≡ w → pair_of c e ≡ x → pair_of f g ≡ y
      → pair_of h i ≡ z → date_by w x y z ≡ Some d
      → IsDate (a ∷ b ∷ c ∷ e ∷ 45 ∷ f ∷ g ∷ 45 ∷ h ∷ i ∷ []) d
  digits-sound {a} {b} {c} {e} {f} {g} {h} {i} (Some n) (Some y) (Some m) (Some k) pn py pm pk w =
      let nn = pair-sound a b n pn in
      let yy = pair-sound c e y py in
      let mm = pair-sound f g m pm in
      let kk = pair-sound h i k pk in
      let v : date (n * 100 + y) m k ≡ d = cc in
      subst (IsDate (a ∷ b ∷ c ∷ e ∷ 45 ∷ f ∷ g ∷ 45 ∷ h ∷ i ∷ []))
      (ap (λ (j : ℕ). date j (value (f ∷ g ∷ [])) (value (h ∷ i ∷ []))) (four-value a b c e n y nn.is yy.is)
      ∙ ap (λ (j : ℕ). date (n * 100 + y) j (value (h ∷ i ∷ []))) mm.is
      ∙ ap (λ (j : ℕ). date (n * 100 + y) m j) kk.is
      ∙ v)
      (is
      (Digits.more nn.one (Digits.more nn.other (Digits.more yy.one (Digits.more yy.other Digits.none))))
      refl
      (Digits.more mm.one (Digits.more mm.other Digits.none)) refl
      (Digits.more kk.one (Digits.more kk.other Digits.none)) refl)
  digits-sound (Some n) (Some y) (Some m) None pn py pm pk w = clash cc
  digits-sound (Some n) (Some y) None z pn py pm pk w = clash cc
  digits-sound (Some n) None y z pn py pm pk w = clash cc
  digits-sound None x y z pn py pm pk w = clash cc

  hyphens_sound : {a b c e u f g v h i : ℕ} (s t : Bool) → eqb u 45 ≡ s → eqb v 45 ≡ t
      → pick s (pick t (date_by (pair_of a b) (pair_of c e) (pair_of f g) (pair_of h i)) None) None ≡ Some d
      → IsDate (a ∷ b ∷ c ∷ e ∷ u ∷ f ∷ g ∷ v ∷ h ∷ i ∷ []) d
  hyphens_sound {a} {b} {c} {e} {u} {f} {g} {v} {h} {i} true true p q w =
      rw (eqb-true u 45 p, eqb-true v 45 q)
      (digits-sound (pair_of a b) (pair_of c e) (pair_of f g) (pair_of h i) refl refl refl refl w)
  hyphens_sound true false p q w = clash cc
  hyphens_sound false t p q w = clash cc

  ten-sound : {s : List ℕ} → Ten s → date_of s ≡ Some d → IsDate s d
  unfolding date_of
  ten-sound (ten {a} {b} {c} {e} {u} {f} {g} {v} {h} {i}) w = hyphens_sound (eqb u 45) (eqb v 45) refl refl w

  date-sound : (s : List ℕ) → date_of s ≡ Some d → IsDate s d
  unfolding date_of
  date-sound s q = long (eqb (length s) 10) refl
    where
      long : (t : Bool) → eqb (length s) 10 ≡ t → IsDate s d
      long true e = ten-sound (ten-bytes s (eqb-true (length s) 10 e)) q
      long false e = let w : None ≡ Some d = rw (date_of, e) at q in clash cc

-- a text is read as the date d exactly where it says d
pub date_iff : (s : List ℕ) (d : Date) → (date_of s ≡ Some d) ↔ IsDate s d
date_iff s d = (date-sound d s, date_complete)

pub one-date : {s : List ℕ} {d e : Date} → IsDate s d → IsDate s e → d ≡ e
one-date a b = let e = sym (date_complete a) ∙ date_complete b in cc

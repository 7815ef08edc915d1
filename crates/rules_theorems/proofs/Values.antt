-- What the reader makes of a value's text is what the text says. Assumes nothing.
use Rattle.std.specs.Prelude.{Err, None, Ok, Some}
use Prim.Native.Nat.{ℕ, zero, suc, ◌-◌, ◌≤◌, ◌<◌}
use mathlib.Core.Path.{◌≡◌, refl, ap}
use mathlib.Core.Bool.{Bool, true, false}
use mathlib.Core.List.{List, [], ◌∷◌, ◌++◌, append_assoc}
use native.Mathlib.Omega.{arith}
use borrow.Author.Tests.{ne_eqb, eqb-true, lt-ltb}
use lib.Dec.{eqb}
use lib.IntN.{ℤ, pos, negsuc, nat_abs, ◌-ℤ◌, +ℤ_idl}
use lib.ListN.{length}
use lib.Seq.{take_all}
use Rattle.base.specs.Pick.{pick}
use Rattle.base.specs.Text.{bytes}
use Rattle.base.specs.Part.{part, same_bytes, lower, lowered}
use Rattle.base.proofs.Clash.{clash}
use Rattle.base.proofs.Holds.{same-eq}
use Rattle.numbers.specs.Numbers.{Digit, Whole, IsNumber}
use Rattle.numbers.specs.Reading.{number_of}
use Rattle.numbers.proofs.Agrees.{number_iff}
use Rattle.inputs.specs.declared.Form.{Form}
use Rattle.inputs.specs.declared.Form.TheVariants as forms
use Rattle.names.specs.Names.{names_of}
use Rattle.names.specs.Find.{find_name}
use Rattle.words.proofs.Places.{find_text-at, find_text-of}
use Rattle.words.specs.Find.{Found}
use Rattle.names.proofs.Once.{names-once}
use Rattle.farm.specs.declared.Given.{Given}
use Rattle.farm.specs.declared.Given.TheVariants.{Standard, Value, Signed}
use Rattle.number_values.specs.Numbers.{number_read, has_minus, below_read, above_read, signed_read}
use Rattle.number_values.specs.declared.ValueFault.TheVariants.{Forbidden}
use Rattle.values.specs.Values.{is_standard, name_read, value_of}
use Rattle.rules_theorems.specs.Rules.{IsStandard, IsSigned, ValueIs}
use Rattle.rules_theorems.specs.Refusals.{Forbids, forbids}
use Rattle.digits.specs.Digits.{Number}

-- ---- `standard`

pub standard-true : (s : List ℕ) → IsStandard s → is_standard s ≡ true
unfolding is_standard same_bytes
standard-true s e = rw e

true-standard : (s : List ℕ) → is_standard s ≡ true → IsStandard s
unfolding is_standard
true-standard s e = same-eq (lowered s) (bytes "standard") e

-- no number is `standard`: a digit is no letter
digit-first : {b : ℕ} (t : List ℕ) → Digit b → is_standard (b ∷ t) ≡ false
unfolding is_standard lowered lower same_bytes
digit-first {b} t d =
    rw (lowered, lower, lt-ltb b 65 (omega (arith, d.high)), same_bytes, ne_eqb b 115 (λ e. omega (arith, d.high)))

whole-first : {w : List ℕ} (t : List ℕ) → Whole w → is_standard (w ++ t) ≡ false
whole-first t Whole.nought = digit-first t (record { low = omega arith; high = omega arith })
whole-first t (Whole.some {ds = ds} d _ _) = digit-first (ds ++ t) d

whole-alone : {w : List ℕ} → Whole w → is_standard w ≡ false
whole-alone Whole.nought = digit-first [] (record { low = omega arith; high = omega arith })
whole-alone (Whole.some {ds = ds} d _ _) = digit-first ds d

digit_minus : {b : ℕ} (t : List ℕ) → Digit b → has_minus (b ∷ t) ≡ false
digit_minus {b} t d = ne_eqb b 45 (λ e. omega (arith, d.low))

before_minus : {w : List ℕ} (t : List ℕ) → Whole w → has_minus (w ++ t) ≡ false
before_minus t Whole.nought = refl
before_minus t (Whole.some {ds = ds} d _ _) = digit_minus (ds ++ t) d

whole_minus : {w : List ℕ} → Whole w → has_minus w ≡ false
whole_minus Whole.nought = refl
whole_minus (Whole.some {ds = ds} d _ _) = digit_minus ds d

no_number : {s : List ℕ} {d v : ℕ} → IsNumber s d v → is_standard s ≡ false
no_number (IsNumber.whole w) = whole-alone w
no_number (IsNumber.pointed {f = f} w _ _ _) = rw append_assoc (whole-first (bytes "." ++ f) w)

-- ---- the byte in front: no number begins with a `-`

no_minus : {s : List ℕ} {d v : ℕ} → IsNumber s d v → has_minus s ≡ false
no_minus (IsNumber.whole w) = whole_minus w
no_minus (IsNumber.pointed {f = f} w _ _ _) = rw append_assoc (before_minus (bytes "." ++ f) w)

-- what stands behind the `-`
behind : (s : List ℕ) → part (bytes "-" ++ s) 1 (length (bytes "-" ++ s)) ≡ s
unfolding part
behind s = take_all (length (bytes "-" ++ s) - 1) s (omega arith)

-- ---- what a text says is what the reader makes of it

module _ {s : List ℕ} {d m v : ℕ} (n : IsNumber s d v) (h : v ≤ m) where
  said-number : number_read (number_of s d m) ≡ Ok (Value v)
  said-number = rw ((number_iff s d m v).1 (n, h))

  said_or : pick (is_standard s) (Ok Standard) (number_read (number_of s d m)) ≡ Ok (Value v)
  said_or = rw (no_number n) said-number

  said-not : pick (is_standard s) (Err Forbidden) (number_read (number_of s d m)) ≡ Ok (Value v)
  said-not = rw (no_number n) said-number

-- a number behind a `-`, and one without
said-above : {s : List ℕ} {m v : ℕ} → IsNumber s 0 v → v ≤ m → signed_read s m ≡ Ok (Signed (pos v))
unfolding signed_read
said-above {s} {m} {v} n h = rw (no_minus n, (number_iff s 0 m v).1 (n, h)) refl

below-is : (v : ℕ) → 0 < v → below_read (Some v) ≡ Ok (Signed (pos 0 -ℤ pos v))
below-is zero h = absurd (omega arith)
below-is (suc v) h = rw (+ℤ_idl (negsuc v)) refl

said-below : {s : List ℕ} {m v : ℕ} → IsNumber s 0 v → 0 < v → v ≤ m
    → signed_read (bytes "-" ++ s) m ≡ Ok (Signed (pos 0 -ℤ pos v))
unfolding signed_read
said-below {s} {m} {v} n a h = rw (behind s, (number_iff s 0 m v).1 (n, h)) (below-is v a)

size_below : (v : ℕ) → nat_abs (pos 0 -ℤ pos v) ≡ v
size_below zero = refl
size_below (suc v) = ap nat_abs (+ℤ_idl (negsuc v))

said-signed : {s : List ℕ} {m : ℕ} {v : ℤ} → IsSigned s v → nat_abs v ≤ m → signed_read s m ≡ Ok (Signed v)
said-signed (IsSigned.not_below n) h = said-above n h
said-signed (IsSigned.behind_minus {v = v} n a) h = said-below n a (omega (arith, h, size_below v))

pub value-said : {form : Form} {s : List ℕ} {g : Given} → ValueIs form s g → value_of form s ≡ Ok g
unfolding value_of find_name
value-said (ValueIs.number n h) = said-number n h
value-said (ValueIs.or_standard n h) = said_or n h
value-said (ValueIs.no_standard n h) = said-not n h
value-said (ValueIs.signed n h) = said-signed n h
value-said {s = s} (ValueIs.standard x) = rw (standard-true s x)
value-said {s = s} (ValueIs.name {names = names} {place = j} x) =
    ap name_read (find_text-of (names_of names) (names-once names) s j (record { inside = x.inside; name = x.name }))

-- ---- and back

number-of : {s : List ℕ} {d m : ℕ} {g : Given} (F : Form) → ((v : ℕ) → IsNumber s d v → v ≤ m → ValueIs F s (Value v))
    → number_read (number_of s d m) ≡ Ok g → ValueIs F s g
number-of {s} {d} {m} {g} F make e = go (number_of s d m) refl e
  where
    go : (r : Number) → number_of s d m ≡ r → number_read r ≡ Ok g → ValueIs F s g
    go (Some v) q e =
        let n = (number_iff s d m v).0 q in
        let z : Value v ≡ g = cc in
        rw z at (make v n.0 n.1)
    go None q e = clash cc

said-not-below : {m : ℕ} {g : Given} (s : List ℕ) → above_read (number_of s 0 m) ≡ Ok g → ValueIs (forms.Signed m) s g
said-not-below {m} {g} s e = go (number_of s 0 m) refl e
  where
    go : (r : Number) → number_of s 0 m ≡ r → above_read r ≡ Ok g → ValueIs (forms.Signed m) s g
    go (Some v) q e =
        let n = (number_iff s 0 m v).0 q in
        let x : ValueIs (forms.Signed m) s (Signed (pos v)) = ValueIs.signed (IsSigned.not_below n.0) n.1 in
        let z : Signed (pos v) ≡ g = cc in
        rw z at x
    go None q e = clash cc

said-behind : {m : ℕ} {g : Given} (t : List ℕ) → below_read (number_of t 0 m) ≡ Ok g
    → ValueIs (forms.Signed m) (bytes "-" ++ t) g
said-behind {m} {g} t e = go (number_of t 0 m) refl e
  where
    go : (r : Number) → number_of t 0 m ≡ r → below_read r ≡ Ok g → ValueIs (forms.Signed m) (bytes "-" ++ t) g
    go (Some zero) q e = clash cc
    go (Some (suc v)) q e =
        let n = (number_iff t 0 m (suc v)).0 q in
        let few : nat_abs (pos 0 -ℤ pos (suc v)) ≤ m = omega (arith, n.1, size_below (suc v)) in
        let some : 0 < suc v = omega arith in
        let x : ValueIs (forms.Signed m) (bytes "-" ++ t) (Signed (pos 0 -ℤ pos (suc v))) =
        ValueIs.signed (IsSigned.behind_minus n.0 some) few in
        let y : Signed (pos 0 -ℤ pos (suc v)) ≡ g = rw (+ℤ_idl (negsuc v)) cc in
        rw y at x
    go None q e = clash cc

signed_of : {m : ℕ} {g : Given} (s : List ℕ) → signed_read s m ≡ Ok g → ValueIs (forms.Signed m) s g
unfolding signed_read
signed_of {m} {g} [] e = above [] refl e
  where
    above : (s : List ℕ) → has_minus s ≡ false → above_read (number_of s 0 m) ≡ Ok g → ValueIs (forms.Signed m) s g
    above s x e = said-not-below s e
signed_of {m} {g} (b ∷ t) e = go (eqb b 45) refl e
  where
    go : (k : Bool) → eqb b 45 ≡ k
        → pick k (below_read (number_of (part (b ∷ t) 1 (length (b ∷ t))) 0 m)) (above_read (number_of (b ∷ t) 0 m))
        ≡ Ok g
        → ValueIs (forms.Signed m) (b ∷ t) g
    go true q e =
        let eb : b ≡ 45 = eqb-true b 45 q in
        rw eb (said-behind t (rw (eb, behind t) at e))
    go false q e = said-not-below (b ∷ t) e

pub said-value : {g : Given} (form : Form) (s : List ℕ) → value_of form s ≡ Ok g → ValueIs form s g
unfolding value_of find_name
said-value (forms.Number d m) s e = number-of (forms.Number d m) (λ v. ValueIs.number) e
said-value {g} (forms.OrStandard d m) s e = go (is_standard s) refl e
  where
    go : (t : Bool) → is_standard s ≡ t → pick t (Ok Standard) (number_read (number_of s d m)) ≡ Ok g
        → ValueIs (forms.OrStandard d m) s g
    go true h e =
        let x : ValueIs (forms.OrStandard d m) s Standard = ValueIs.standard (true-standard s h) in
        let z : Standard ≡ g = cc in
        rw z at x
    go false h e = number-of (forms.OrStandard d m) (λ v. ValueIs.or_standard) e
said-value {g} (forms.NoStandard d m) s e = go (is_standard s) e
  where
    go : (t : Bool) → pick t (Err Forbidden) (number_read (number_of s d m)) ≡ Ok g → ValueIs (forms.NoStandard d m) s g
    go true e = clash cc
    go false e = number-of (forms.NoStandard d m) (λ v. ValueIs.no_standard) e
said-value (forms.Signed m) s e = signed_of s e
said-value {g} (forms.OneOf names) s e = go (find_name names s) refl e
  where
    go : (r : Found) → find_name names s ≡ r → name_read r ≡ Ok g → ValueIs (forms.OneOf names) s g
    go (Some j) q e =
        let n = find_text-at (names_of names) s j q in
        let x : ValueIs (forms.OneOf names) s (Value j) =
        ValueIs.name (record { inside = n.inside; name = n.name }) in
        let z : Value j ≡ g = cc in
        rw z at x
    go None q e = clash cc

-- ---- a `standard` that is forbidden

pub forbidden_said : {form : Form} (s : List ℕ) → Forbids form → IsStandard s → value_of form s ≡ Err Forbidden
unfolding value_of
forbidden_said s forbids e = rw (standard-true s e)

never_forbidden : {A : Type 0} (n : Number) → number_read n ≡ Err Forbidden → A
never_forbidden (Some v) e = clash cc
never_forbidden None e = clash cc

above-allowed : {A : Type 0} (n : Number) → above_read n ≡ Err Forbidden → A
above-allowed (Some v) e = clash cc
above-allowed None e = clash cc

below-allowed : {A : Type 0} (n : Number) → below_read n ≡ Err Forbidden → A
below-allowed (Some zero) e = clash cc
below-allowed (Some (suc v)) e = clash cc
below-allowed None e = clash cc

pub said_forbidden : (form : Form) (s : List ℕ) → value_of form s ≡ Err Forbidden → Forbids form × IsStandard s
unfolding value_of signed_read
said_forbidden (forms.Number d m) s e = never_forbidden (number_of s d m) e
said_forbidden (forms.OrStandard d m) s e = go (is_standard s) e
  where
    go : (t : Bool) → pick t (Ok Standard) (number_read (number_of s d m)) ≡ Err Forbidden
        → Forbids (forms.OrStandard d m) × IsStandard s
    go true e = clash cc
    go false e = never_forbidden (number_of s d m) e
said_forbidden (forms.NoStandard d m) s e = go (is_standard s) refl e
  where
    go : (t : Bool) → is_standard s ≡ t → pick t (Err Forbidden) (number_read (number_of s d m)) ≡ Err Forbidden
        → Forbids (forms.NoStandard d m) × IsStandard s
    go true h e = (forbids, true-standard s h)
    go false h e = never_forbidden (number_of s d m) e
said_forbidden (forms.Signed m) s e = go (has_minus s) e
  where
    go : (t : Bool)
        → pick t (below_read (number_of (part s 1 (length s)) 0 m)) (above_read (number_of s 0 m)) ≡ Err Forbidden
        → Forbids (forms.Signed m) × IsStandard s
    go true e = below-allowed (number_of (part s 1 (length s)) 0 m) e
    go false e = above-allowed (number_of s 0 m) e
said_forbidden (forms.OneOf names) s e = go (find_name names s) e
  where
    go : (r : Found) → name_read r ≡ Err Forbidden → Forbids (forms.OneOf names) × IsStandard s
    go (Some j) e = clash cc
    go None e = clash cc

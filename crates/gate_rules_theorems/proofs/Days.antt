-- What a record says by itself, as it is read and by the rules: the same, and one day at most. Assumes nothing.
use Prim.Native.Nat.{ℕ, ◌+◌}
use mathlib.Core.Path.{◌≡◌, refl, sym, ap, ◌∙◌}
use mathlib.Core.Bool.{Bool, true, false}
use mathlib.Core.List.{List}
use native.Mathlib.Omega.{arith}
use lib.Dec.{eqb, ltb}
use lib.ListN.{length}
use borrow.Author.Tests.{eqb-true, eqb-false, ltb-true, ltb-false}
use Rattle.std.specs.Prelude.{Option, Some, None, Result, Ok, Err}
use Rattle.base.specs.Pick.{pick}
use Rattle.base.proofs.Clash.{clash}
use Rattle.grammar.specs.Reading.{parts_of}
use Rattle.numbers.specs.Numbers.{IsNumber}
use Rattle.numbers.specs.Reading.{number_of}
use Rattle.numbers.proofs.Agrees.{number_iff, unreadable_iff, one_value}
use Rattle.rules_theorems.specs.Lists.{Pairs}
use Rattle.first_refusal.specs.Records.{Record}
use Rattle.calendar.specs.declared.Date.{Date}
use Rattle.dates.specs.Reading.{date_of}
use Rattle.dates.specs.Texts.{IsDate}
use Rattle.dates.proofs.DateTexts.{date_iff, one-date}
use Rattle.outdoors.specs.declared.Day.{Day}
use Rattle.gate_days.specs.declared.LogRefusal.{LogRefusal}
use Rattle.gate_days.specs.declared.LogRefusal.TheVariants.{NotThreeFields, BadHours, WrongDate}
use Rattle.gate_days.specs.Days.{day, hours_by, hours_of, day_by, day_of}
use Rattle.gate_rules_theorems.specs.Rules.{date_text, pasture_text, yard_text, HoursAre, RecordSays}
use Rattle.digits.specs.Digits.{Number}

-- ---- hours

pub one-hours : {cs : Record} {p q a b : ℕ} → HoursAre cs p q → HoursAre cs a b → (p ≡ a) × (q ≡ b)
one-hours x y = (one_value x.hours_on_pasture y.hours_on_pasture, one_value x.yard_hours y.yard_hours)

-- the hours as they are read
data ReadHours (cs : Record) : Option (ℕ × ℕ) → Type 0 where
  are : {p q : ℕ} → HoursAre cs p q → ReadHours cs (Some (p, q))
  unfit : ((p q : ℕ) → HoursAre cs p q → ⊥) → ReadHours cs None

read-hours : (cs : Record) → ReadHours cs (hours_of (parts_of cs))
unfolding hours_of
read-hours cs = go (number_of (pasture_text cs) 1 240) (number_of (yard_text cs) 1 240) refl refl
  where
    both : (a b : ℕ) → IsNumber (pasture_text cs) 1 a → IsNumber (yard_text cs) 1 b → (t : Bool) → ltb 240 (a + b) ≡ t
        → ReadHours cs (pick t None (Some (a, b)))
    both a b x y true e =
        unfit (λ p q h.
        let m = one_value x h.hours_on_pasture in
        let n = one_value y h.yard_hours in
        omega (arith, h.most, ltb-true 240 (a + b) e))
    both a b x y false e = are (record { hours_on_pasture = x; yard_hours = y; most = ltb-false 240 (a + b) e })

    go : (x y : Number) → number_of (pasture_text cs) 1 240 ≡ x → number_of (yard_text cs) 1 240 ≡ y
        → ReadHours cs (hours_by x y)
    go (Some a) (Some b) p q =
        both a b ((number_iff (pasture_text cs) 1 240 a).0 p).0 ((number_iff (yard_text cs) 1 240 b).0 q).0
        (ltb 240 (a + b)) refl
    go (Some a) None p q =
        unfit (λ m n h. (unreadable_iff (yard_text cs) 1 240).0 q n h.yard_hours (omega (arith, h.most)))
    go None y p q =
        unfit (λ m n h. (unreadable_iff (pasture_text cs) 1 240).0 p m h.hours_on_pasture (omega (arith, h.most)))

-- ---- a day

-- what a record says by itself
pub data Alone (cs : Record) : Result Day LogRefusal → Type 0 where
  says : {d : Day} → RecordSays cs d → Alone cs (Ok d)
  not_three : (length cs ≡ 3 → ⊥) → Alone cs (Err NotThreeFields)
  no-hours : length cs ≡ 3 → ((p q : ℕ) → HoursAre cs p q → ⊥) → Alone cs (Err BadHours)
  no-date : {p q : ℕ} → length cs ≡ 3 → HoursAre cs p q → ((d : Date) → IsDate (date_text cs) d → ⊥)
      → Alone cs (Err WrongDate)

pub alone : (cs : Record) → Alone cs (day_of (parts_of cs))
unfolding day_of
alone cs = three (eqb (length cs) 3) refl
  where
    date : length cs ≡ 3 → {p q : ℕ} → HoursAre cs p q → (r : Option Date) → date_of (date_text cs) ≡ r
        → Alone cs (day_by (Some (p, q)) r)
    date n h (Some d) e = says (record { three = n; hours = h; date = (date_iff (date_text cs) d).0 e })
    date n h None e =
        no-date n h (λ d x. let c : None ≡ Some d = sym e ∙ (date_iff (date_text cs) d).1 x in clash cc)

    hours : length cs ≡ 3 → {x : Option (ℕ × ℕ)} → ReadHours cs x → Alone cs (day_by x (date_of (date_text cs)))
    hours n (are h) = date n h (date_of (date_text cs)) refl
    hours n (unfit none) = no-hours n none

    three : (t : Bool) → eqb (length cs) 3 ≡ t
        → Alone cs (pick t (day_by (hours_of (parts_of cs)) (date_of (date_text cs))) (Err NotThreeFields))
    three true e = hours (eqb-true (length cs) 3 e) (read-hours cs)
    three false e = not_three (eqb-false (length cs) 3 e)

-- a record says one day at most
pub one-day : {cs : Record} {d e : Day} → RecordSays cs d → RecordSays cs e → d ≡ e
one-day {cs} {d} {e} x y =
    let h = one-hours x.hours y.hours in
    ap (λ (z : Date). day z d.pasture d.yard) (one-date x.date y.date)
    ∙ ap (λ (n : ℕ). day e.date n d.yard) h.0
    ∙ ap (λ (n : ℕ). day e.date e.pasture n) h.1

-- and is read as that
pub says-read : {cs : Record} {d : Day} → RecordSays cs d → day_of (parts_of cs) ≡ Ok d
says-read {cs} {d} x = go (alone cs)
  where
    go : {r : Result Day LogRefusal} → Alone cs r → r ≡ Ok d
    go (says y) = ap Ok (one-day y x)
    go (not_three n) = absurd (n x.three)
    go (no-hours _ none) = absurd (none d.pasture d.yard x.hours)
    go (no-date _ _ none) = absurd (none d.date x.date)

-- records say one list of days at most
pub one-days : {rs : List Record} {a b : List Day} → Pairs RecordSays rs a → Pairs RecordSays rs b → a ≡ b
one-days Pairs.none Pairs.none = refl
one-days (Pairs.more x p) (Pairs.more y q) = let d = one-day x y in let e = one-days p q in cc

-- What a record says of its day, from the calls that read its fields: each law in the form that a place of
-- src/days.rt wants. Assumes nothing.
use Prim.Native.Nat.{ℕ, ◌+◌, ◌<◌, ◌≤◌}
use mathlib.Core.Path.{◌≡◌, refl, sym, ap, ◌∙◌}
use mathlib.Core.Bool.{Bool, true, false}
use mathlib.Core.List.{List}
use native.Mathlib.Omega.{arith}
use lib.Dec.{eqb, ltb}
use borrow.Author.Tests.{eq-eqb, ne_eqb, lt-ltb, le-ltb, ltb-false}
use Rattle.std.specs.Prelude.{Option, Some, None, Ok, Err}
use Rattle.base.specs.Pick.{pick}
use Rattle.base.proofs.Clash.{clash}
use Rattle.grammar.specs.Reading.{Parts}
use Rattle.plain_fields.specs.Places.{held}
use Rattle.csv_reader.specs.Places.{parts_at}
use Rattle.csv_reader.specs.declared.Fields.{Fields}
use Rattle.numbers.specs.Reading.{number_of}
use Rattle.numbers.proofs.Agrees.{number_iff}
use Rattle.calendar.specs.declared.Date.{Date}
use Rattle.dates.specs.Reading.{date_of}
use Rattle.outdoors.specs.declared.Day.{Day}
use Rattle.gate_days.specs.declared.LogRefusal.TheVariants.{NotThreeFields, BadHours, WrongDate}
use Rattle.gate_days.specs.Days.{day, hours_by, hours_of, day_by, day_of}
use Rattle.digits.specs.Digits.{Number}

-- a number that is read is at most the largest
pub number_small : (a : List ℕ) (d m : ℕ) {x : Number} → x ≡ number_of a d m → {v : ℕ} → x ≡ Some v → v ≤ m
number_small a d m q {v} e = ((number_iff a d m v).0 (sym q ∙ e)).1

-- ---- hours

module _ (s : List ℕ) (f : Fields) {a : List ℕ} (qa : a ≡ held s f.second) {x : Number}
    (qx : x ≡ number_of a 1 240) where
  pasture-at : number_of (held s f.second) 1 240 ≡ x
  pasture-at = rw qa at (sym qx)

  pub no-pasture : x ≡ None → None ≡ hours_of (parts_at s f)
  unfolding hours_of
  no-pasture e = simp (hours_of, pasture-at ∙ e)

  module _ {p : ℕ} (e : x ≡ Some p) {b : List ℕ} (qb : b ≡ held s f.third) {y : Number}
      (qy : y ≡ number_of b 1 240) where
    yard-at : number_of (held s f.third) 1 240 ≡ y
    yard-at = rw qb at (sym qy)

    pub no-yard : y ≡ None → None ≡ hours_of (parts_at s f)
    unfolding hours_of
    no-yard g = simp (hours_of, pasture-at ∙ e, yard-at ∙ g)

    module _ {q : ℕ} (g : y ≡ Some q) where
      pub too_many : 240 < p + q → None ≡ hours_of (parts_at s f)
      unfolding hours_of
      too_many h = simp (hours_of, pasture-at ∙ e, yard-at ∙ g, lt-ltb 240 (p + q) h)

      pub hours-are : p + q ≤ 240 → Some (p, q) ≡ hours_of (parts_at s f)
      unfolding hours_of
      hours-are h = simp (hours_of, pasture-at ∙ e, yard-at ∙ g, le-ltb 240 (p + q) h)

pub ruleset hours_steps = (no-pasture, no-yard, too_many, hours-are)

-- ---- the day

module _ (s : List ℕ) (f : Fields) where
  pub not_three : (f.count ≡ 3 → ⊥) → Err NotThreeFields ≡ day_of (parts_at s f)
  unfolding day_of
  not_three n = simp (day_of, ne_eqb f.count 3 n)

  module _ (three : f.count ≡ 3) {x : Option (ℕ × ℕ)} (qx : x ≡ hours_of (parts_at s f)) where
    pub bad_hours : x ≡ None → Err BadHours ≡ day_of (parts_at s f)
    unfolding day_of
    bad_hours e = simp (day_of, eq-eqb f.count 3 three, sym qx ∙ e)

    module _ {p q : ℕ} (e : x ≡ Some (p, q)) {a : List ℕ} (qa : a ≡ held s f.first) {y : Option Date}
        (qy : y ≡ date_of a) where
      date-at : date_of (held s f.first) ≡ y
      date-at = rw qa at (sym qy)

      pub wrong_date : y ≡ None → Err WrongDate ≡ day_of (parts_at s f)
      unfolding day_of
      wrong_date g = simp (day_of, eq-eqb f.count 3 three, sym qx ∙ e, date-at ∙ g)

      pub says-day : {d : Date} → y ≡ Some d → Ok (day d p q) ≡ day_of (parts_at s f)
      unfolding day_of
      says-day g = simp (day_of, eq-eqb f.count 3 three, sym qx ∙ e, date-at ∙ g)

pub ruleset day_steps = (not_three, bad_hours, wrong_date, says-day)

-- ---- a day has 24 hours

hours-small : (x : Parts) (p q : ℕ) → hours_of x ≡ Some (p, q) → p + q ≤ 240
unfolding hours_of
hours-small x p q e = go (number_of x.second 1 240) (number_of x.third 1 240) e
  where
    sum : (a b : ℕ) (t : Bool) → ltb 240 (a + b) ≡ t → pick {A = Option (ℕ × ℕ)} t None (Some (a, b)) ≡ Some (p, q)
        → p + q ≤ 240
    sum a b true h e = clash cc
    sum a b false h e =
        let w : ◌≡◌ {A = ℕ × ℕ} (a, b) (p, q) = cc in
        omega (arith, ltb-false 240 (a + b) h, ap (λ (z : ℕ × ℕ). z.0) w, ap (λ (z : ℕ × ℕ). z.1) w)

    go : (a b : Number) → hours_by a b ≡ Some (p, q) → p + q ≤ 240
    go (Some a) (Some b) e = sum a b (ltb 240 (a + b)) refl e
    go (Some a) None e = clash cc
    go None b e = clash cc

-- the hours of a day that a record says are 24 at most
pub day-small : (x : Parts) (d : Day) → day_of x ≡ Ok d → d.pasture + d.yard ≤ 240
unfolding day_of
day-small x d e = three (eqb x.count 3) e
  where
    by : (h : Option (ℕ × ℕ)) (r : Option Date) → hours_of x ≡ h → day_by h r ≡ Ok d → d.pasture + d.yard ≤ 240
    by (Some (p, q)) (Some k) w e =
        let v : day k p q ≡ d = cc in
        omega (arith, hours-small x p q w, ap (λ (z : Day). z.pasture) v, ap (λ (z : Day). z.yard) v)
    by (Some (p, q)) None w e = clash cc
    by None r w e = clash cc

    three : (t : Bool) → pick t (day_by (hours_of x) (date_of x.first)) (Err NotThreeFields) ≡ Ok d
        → d.pasture + d.yard ≤ 240
    three true e = by (hours_of x) (date_of x.first) refl e
    three false e = clash cc

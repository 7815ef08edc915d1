-- What a log comes to lies in the ranges of a farm file's inputs: no more than 365 days are counted, and no day has
-- more than 24 hours. Assumes nothing.
use Prim.Native.Nat.{ℕ, zero, suc, ◌+◌, ◌*◌, ◌/◌, ◌<◌, ◌≤◌}
use mathlib.Core.Path.{◌≡◌, refl, sym, ap, subst}
use mathlib.Core.Bool.{Bool, true, false, not}
use mathlib.Core.List.{List, [], ◌∷◌}
use native.Mathlib.Omega.{arith}
use native.Mathlib.Nat.{div-lt_iff_lt-mul}
use lib.Dec.{eqb, ltb}
use lib.ListN.{length}
use borrow.Author.Tests.{eqb-false}
use Rattle.base.specs.Pick.{pick}
use Rattle.base.specs.Each.{Each, none, more}
use Rattle.rules_theorems.specs.Lists.{Pairs}
use Rattle.first_refusal.specs.Records.{Record}
use Rattle.calendar.specs.declared.Date.{Date}
use Rattle.calendar.specs.Calendar.{is_leap, new_year, next_date, after, dates_from, year_dates, is_leap_day}
use Rattle.calendar.proofs.Years.{leap_day, dates-length}
use Rattle.outdoors.specs.declared.Day.{Day}
use Rattle.outdoors.specs.declared.Outdoors.{Outdoors}
use Rattle.outdoors.specs.Outdoors.{those, days_that_count, grazed, pasture_hours, mean_of, outdoors_of}
use Rattle.gate_rules_theorems.specs.Rules.{RecordSays, dates_of, LogOf, KeepsLog}
use Rattle.gate_rules_theorems.specs.FarmFile.{Fits}

-- ---- no more than 365 days are counted

-- the dates but 29 February
abbrev plain : List Date → ℕ
plain [] = 0
plain (d ∷ ds) = pick (is_leap_day d) 0 1 + plain ds

plain-most : (ds : List Date) → plain ds ≤ length ds
plain-most [] = omega arith
plain-most (d ∷ ds) = go (is_leap_day d) (plain-most ds)
  where
    go : (t : Bool) → plain ds ≤ length ds → pick t 0 1 + plain ds ≤ suc (length ds)
    go true h = omega arith
    go false h = omega arith

-- of the first dates no more than all count
plain-from : (a b : ℕ) (d : Date) → plain (dates_from (a + b) d) ≤ a + plain (dates_from b (after a d))
plain-from zero b d = let s : 0 + b ≡ b = omega arith in rw s (omega arith)
plain-from (suc a) b d =
    let s : suc a + b ≡ suc (a + b) = omega arith in
    rw s (go (is_leap_day d) (plain-from a b (next_date d)))
  where
    go : (t : Bool) → plain (dates_from (a + b) (next_date d)) ≤ a + plain (dates_from b (after a (next_date d)))
        → pick t 0 1 + plain (dates_from (a + b) (next_date d)) ≤ suc a + plain (dates_from b (after a (next_date d)))
    go true h = omega arith
    go false h = omega arith

plain-all : (n : ℕ) (d : Date) → plain (dates_from n d) ≤ n
plain-all n d = omega (arith, plain-most (dates_from n d), dates-length n d)

-- where a 29 February is among them, it does not
plain_leap : (a b n : ℕ) (d : Date) → is_leap_day (after a d) ≡ true → n ≡ a + suc b → plain (dates_from n d) ≤ a + b
plain_leap a b n d leap e =
    let rest : plain (dates_from (suc b) (after a d)) ≡ plain (dates_from b (next_date (after a d))) =
    rw leap (omega arith) in
    rw e (omega (arith, plain-from a (suc b) d, rest, plain-all b (next_date (after a d))))

plain-year : (y : ℕ) → plain (year_dates y) ≤ 365
plain-year y = go (is_leap y) refl
  where
    go : (t : Bool) → is_leap y ≡ t → plain (dates_from (pick t 366 365) (new_year y)) ≤ 365
    go false e = plain-all 365 (new_year y)
    go true e = plain_leap 59 306 366 (new_year y) (ap is_leap_day (leap_day y e)) refl

counted-plain : (days : List Day) → length (days_that_count days) ≡ plain (dates_of days)
counted-plain [] = refl
counted-plain (d ∷ ds) = go (is_leap_day d.date) (counted-plain ds)
  where
    go : (t : Bool) → length (days_that_count ds) ≡ plain (dates_of ds)
        → length (pick (not t) (d ∷ days_that_count ds) (days_that_count ds)) ≡ pick t 0 1 + plain (dates_of ds)
    go true e = omega arith
    go false e = omega arith

counted-most : {rs : List Record} {days : List Day} → LogOf rs days → length (days_that_count days) ≤ 365
counted-most {days = days} log = omega (arith, counted-plain days, ap plain log.dates, plain-year log.year)

those-most : (f : Day → Bool) (days : List Day) → length (those f days) ≤ length days
those-most f [] = omega arith
those-most f (d ∷ ds) = go (f d) (those-most f ds)
  where
    go : (t : Bool) → length (those f ds) ≤ length ds
        → length (pick t (d ∷ those f ds) (those f ds)) ≤ suc (length ds)
    go true h = omega arith
    go false h = omega arith

-- ---- no day has more than 24 hours

day-most : {rs : List Record} {days : List Day} → Pairs RecordSays rs days → Each (λ d. d.pasture ≤ 240) days
day-most Pairs.none = none
day-most (Pairs.more {b = d} x p) =
    let most : d.pasture ≤ 240 = omega (arith, x.hours.most) in more most (day-most p)

those-each : {P : Day → Type 0} (f : Day → Bool) (days : List Day) → Each P days → Each P (those f days)
those-each f [] none = none
those-each {P} f (d ∷ ds) (more p ps) = go (f d) (those-each f ds ps)
  where
    go : (t : Bool) → Each P (those f ds) → Each P (pick t (d ∷ those f ds) (those f ds))
    go true e = more p e
    go false e = e

hours-most : {days : List Day} → Each (λ d. d.pasture ≤ 240) days → pasture_hours days ≤ length days * 240
hours-most none = omega arith
hours-most (more p ps) = omega (arith, hours-most ps)

mean-most : (t n : ℕ) → t ≤ n * 240 → mean_of t n ≤ 240
mean-most t n h = go (eqb n 0) refl
  where
    go : (b : Bool) → eqb n 0 ≡ b → pick b 0 (t / n) ≤ 240
    go true e = omega arith
    go false e =
        let some : 0 < n = let z = eqb-false n 0 e in omega arith in
        let less : t / n < 241 = (div-lt_iff_lt-mul {k = n} {x = t} {y = 241} some).1 (omega arith) in
        omega arith

outdoors-fit : {rs : List Record} {days : List Day} → LogOf rs days → Fits (outdoors_of days)
unfolding outdoors_of
outdoors-fit {days = days} log =
    let most = counted-most log in
    let each =
    those-each (λ d. ltb 0 d.pasture) (days_that_count days)
    (those-each (λ d. not (is_leap_day d.date)) days (day-most log.says)) in
    record {
      grazing = omega (arith, most, those-most (λ d. ltb 0 d.pasture) (days_that_count days));
      yard = omega (arith, most, those-most (λ d. ltb 0 d.yard) (days_that_count days));
      hours = mean-most (pasture_hours (grazed days)) (length (grazed days)) (hours-most each);
    }

-- what a log comes to fits a farm file
pub log-fits : (s : List ℕ) (o : Outdoors) → KeepsLog s o → Fits o
log-fits s o k = subst Fits (sym k.is) (outdoors-fit k.log)

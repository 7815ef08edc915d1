-- What follows of the calendar: a year has 365 or 366 days, and from 1 January on its last date and no other is 31
-- December. And what is due in a year's dates is the next date, to 31 December. Assumes nothing.
use Prim.Native.Nat.{ℕ, zero, suc, ◌+◌, ◌-◌, ◌<◌, ◌≤◌}
use mathlib.Core.Path.{◌≡◌, refl, sym, ap, subst, ◌∙◌}
use mathlib.Core.Logic.{◌↔◌}
use mathlib.Core.Bool.{Bool, true, false}
use mathlib.Core.List.{List, [], ◌∷◌, ◌++◌}
use native.Mathlib.Omega.{arith}
use lib.Dec.{leb, ltb, leb→le}
use lib.ListN.{length, get_or, take, get_or-eq_default}
use borrow.Author.Tests.{leb-true, leb-false, ltb-true, ltb-false, lt-ltb, le-ltb}
use Rattle.base.specs.Pick.{pick}
use Rattle.base.specs.Each.{Each}
use Rattle.base.proofs.Each.{each-passed, each-get_or}
use Rattle.calendar.specs.declared.Date.{Date}
use Rattle.calendar.specs.declared.Due.TheVariants.{On, Nothing}
use Rattle.calendar.specs.Calendar.{date, is_leap, months_of, days_in, year_length, sum, Exists, new_year}
use Rattle.calendar.specs.Calendar.{new_years_eve, next_date, after, dates_from, Comes, IsEve}
use Rattle.calendar.specs.Following.{due_after}
use Rattle.calendar.proofs.MonthSteps.{due_in_month, due_in_next, due-nothing}

-- ---- months and years

months_sum : (leap : Bool) → sum (months_of leap) ≡ pick leap 366 365
months_sum true = refl
months_sum false = refl

-- a year has 365 or 366 days
pub year-sum : (y : ℕ) → sum (months_of (is_leap y)) ≡ year_length y
year-sum y = months_sum (is_leap y)

sum-take : (l : List ℕ) (m : ℕ) → sum (take (suc m) l) ≡ sum (take m l) + get_or l m 0
sum-take [] zero = refl
sum-take [] (suc m) = refl
sum-take (x ∷ l) zero = omega arith
sum-take (x ∷ l) (suc m) = omega (arith, sum-take l m)

sum-part : (l : List ℕ) (m : ℕ) → sum (take m l) ≤ sum l
sum-part l zero = omega arith
sum-part [] (suc m) = omega arith
sum-part (x ∷ l) (suc m) = omega (arith, sum-part l m)

-- the days of the year before a month
unfoldable pub before : ℕ → ℕ → ℕ
before y m = sum (take m (0 ∷ months_of (is_leap y)))

module _ (y : ℕ) where
  before-january : before y 1 ≡ 0
  unfolding before
  before-january = refl

  before-next : (m : ℕ) → before y (suc m) ≡ before y m + days_in y m
  unfolding before days_in
  before-next m = sum-take (0 ∷ months_of (is_leap y)) m

  before-most : (m : ℕ) → before y m ≤ year_length y
  unfolding before
  before-most m = omega (arith, sum-part (0 ∷ months_of (is_leap y)) m, year-sum y)

  december : days_in y 12 ≡ 31
  unfolding days_in
  december = refl

  before-december : before y 12 + 31 ≡ year_length y
  unfolding before
  before-december = go (is_leap y)
    where
      go : (leap : Bool) → sum (take 12 (0 ∷ months_of leap)) + 31 ≡ pick leap 366 365
      go true = refl
      go false = refl

  month_some : (m : ℕ) → m < 12 → 1 ≤ days_in y (suc m)
  unfolding days_in
  month_some m h = each-get_or (months_of (is_leap y)) m 0 (go (is_leap y)) h
    where
      go : (leap : Bool) → Each (λ k. 1 ≤ k) (months_of leap)
      go true = each-passed (λ k. leb 1 k) (λ k t. leb→le 1 k t) (months_of true) tt
      go false = each-passed (λ k. leb 1 k) (λ k t. leb→le 1 k t) (months_of false) tt

  month_past : (m : ℕ) → 12 < m → days_in y m ≡ 0
  unfolding days_in
  month_past m h = get_or-eq_default (0 ∷ months_of (is_leap y)) 0 h

  month_most : (m : ℕ) → 1 ≤ days_in y m → m ≤ 12
  month_most m h = go (leb m 12) refl
    where
      go : (t : Bool) → leb m 12 ≡ t → m ≤ 12
      go true e = leb-true m 12 e
      go false e = absurd (omega (arith, month_past m (leb-false m 12 e)))

-- ---- where a date stands in its year, counted from 1

pub record At (y n : ℕ) (d : Date) : Type 0 where
  pub year : d.year ≡ y
  pub first : 1 ≤ d.day
  pub last : d.day ≤ days_in y d.month
  pub place : before y d.month + d.day ≡ n

pub at_exists : {y n : ℕ} {d : Date} → At y n d → Exists d
at_exists x = record { first = x.first; last = rw x.year x.last }

pub at_front : (y : ℕ) → At y 1 (new_year y)
unfolding days_in
at_front y = record { year = refl; first = omega arith; last = omega arith; place = omega (arith, before-january y) }

-- how a date goes on: in its month, in the next, or not in its year
data Goes (y : ℕ) (d : Date) : Type 0 where
  in_month : d.day < days_in y d.month → Goes y d
  in_next : days_in y d.month ≤ d.day → d.month < 12 → Goes y d
  ends : d.day ≡ 31 → d.month ≡ 12 → Goes y d

goes : {y n : ℕ} {d : Date} → At y n d → Goes y d
goes {y} {n} {d} x = go (ltb d.day (days_in y d.month)) (ltb d.month 12) refl refl
  where
    go : (s t : Bool) → ltb d.day (days_in y d.month) ≡ s → ltb d.month 12 ≡ t → Goes y d
    go true t p q = in_month (ltb-true d.day (days_in y d.month) p)
    go false true p q = in_next (ltb-false d.day (days_in y d.month) p) (ltb-true d.month 12 q)
    go false false p q =
        let full = ltb-false d.day (days_in y d.month) p in
        let m : d.month ≡ 12 =
        omega (arith, month_most y d.month (omega (arith, x.first, x.last)), ltb-false d.month 12 q) in
        ends (omega (arith, x.last, full, ap (days_in y) m, december y)) m

-- the year's last date is its 31 December, and no other date is
pub eve-at : {y n : ℕ} {d : Date} → At y n d → (n ≡ year_length y) ↔ IsEve d
eve-at {y} {n} {d} x = (λ e. to e (goes x), λ v. from v)
  where
    to : n ≡ year_length y → Goes y d → IsEve d
    to e (in_month h) = absurd (omega (arith, x.place, before-next y d.month, before-most y (suc d.month)))
    to e (in_next h k) =
        absurd
        (omega (
          arith,
          x.place,
          x.last,
          before-next y d.month,
          before-next y (suc d.month),
          before-most y (suc (suc d.month)),
          month_some y d.month k,
        ))
    to e (ends h k) = record { december = k; last = h }

    from : IsEve d → n ≡ year_length y
    from v = omega (arith, x.place, v.last, ap (before y) v.december, before-december y)

pub at_most : {y n : ℕ} {d : Date} → At y n d → n ≤ year_length y
at_most {y} {n} {d} x = omega (arith, x.place, x.last, before-next y d.month, before-most y (suc d.month))

-- ---- the next date

module _ (d : Date) where
  next_in_month : d.day < days_in d.year d.month → next_date d ≡ date d.year d.month (d.day + 1)
  unfolding next_date
  next_in_month h = simp (next_date, lt-ltb d.day (days_in d.year d.month) h)

  next_in_next : days_in d.year d.month ≤ d.day → d.month < 12 → next_date d ≡ date d.year (d.month + 1) 1
  unfolding next_date
  next_in_next h k = simp (next_date, le-ltb d.day (days_in d.year d.month) h, lt-ltb d.month 12 k)

  next-year : days_in d.year d.month ≤ d.day → 12 ≤ d.month → next_date d ≡ new_year (d.year + 1)
  unfolding next_date
  next-year h k = simp (next_date, le-ltb d.day (days_in d.year d.month) h, le-ltb d.month 12 k)

-- a date that is not the year's last: the next stands behind it, and is what is due
pub record Next (y n : ℕ) (d : Date) : Type 0 where
  pub next : At y (n + 1) (next_date d)
  pub due : due_after d ≡ On (next_date d)

pub next-at : {y n : ℕ} {d : Date} → At y n d → n < year_length y → Next y n d
next-at {y} {n} {d} x h = go d.year refl x.year
  where
    by : d.year ≡ y → Goes y d → Next y n d
    by e (in_month k) =
        let m : d.day < days_in d.year d.month = rw e k in
        let q = next_in_month d m in
        record {
          next = rw q (record { year = e; first = omega arith; last = omega arith; place = omega (arith, x.place) });
          due = sym (due_in_month d refl m) ∙ ap On (sym q);
        }
    by e (in_next k m) =
        let f : days_in d.year d.month ≤ d.day = rw e k in
        let q = next_in_next d f m in
        let s : d.month + 1 ≡ suc d.month = omega arith in
        record {
          next =
              rw q
              (record {
                year = e;
                first = omega arith;
                last = omega (arith, month_some y d.month m, ap (days_in y) s);
                place = omega (arith, x.place, x.last, before-next y d.month, ap (before y) s);
              });
          due = sym (due_in_next d refl f m) ∙ ap On (sym q);
        }
    by e (ends k m) = absurd (omega (arith, (eve-at x).1 (record { december = m; last = k })))

    go : (z : ℕ) → d.year ≡ z → z ≡ y → Next y n d
    go z p e = by (p ∙ e) (goes x)

-- past 31 December nothing is due, and the next date is 1 January of the next year
pub record Last (y : ℕ) (d : Date) : Type 0 where
  pub next : next_date d ≡ new_year (y + 1)
  pub due : due_after d ≡ Nothing

pub last-at : {y n : ℕ} {d : Date} → At y n d → n ≡ year_length y → Last y d
last-at {y} {n} {d} x h =
    let v = (eve-at x).0 h in
    let k : days_in y d.month ≡ 31 = ap (days_in y) v.december ∙ december y in
    let f : days_in d.year d.month ≤ d.day = rw x.year (omega (arith, v.last)) in
    let m : 12 ≤ d.month = omega (arith, v.december) in
    record {
      next = next-year d f m ∙ ap (λ (z : ℕ). new_year (z + 1)) x.year;
      due = sym (due-nothing d refl f m);
    }

-- ---- from 1 January on

pub after-at : {y n : ℕ} {d : Date} (k : ℕ) → At y n d → n + k ≤ year_length y → At y (n + k) (after k d)
after-at {y} {n} {d} zero x h = subst (λ (i : ℕ). At y i d) (omega arith) x
after-at {y} {n} {d} (suc k) x h =
    subst (λ (i : ℕ). At y i (after k (next_date d))) (omega arith)
    (after-at {n = n + 1} k (next-at x (omega arith)).next (omega arith))

pub after_plus : (a b : ℕ) (d : Date) → after (a + b) d ≡ after b (after a d)
after_plus zero b d = let s : 0 + b ≡ b = omega arith in ap (λ (i : ℕ). after i d) s
after_plus (suc a) b d =
    let s : suc a + b ≡ suc (a + b) = omega arith in
    ap (λ (i : ℕ). after i d) s ∙ after_plus a b (next_date d)

-- the year never falls
next-later : (d : Date) → d.year ≤ (next_date d).year
unfolding next_date
next-later d = go (ltb d.day (days_in d.year d.month)) (ltb d.month 12)
  where
    go : (s t : Bool)
        → d.year ≤ (pick s (date d.year d.month (d.day + 1))
        (pick t (date d.year (d.month + 1) 1) (new_year (d.year + 1)))).year
    go true t = omega arith
    go false true = omega arith
    go false false = omega arith

later : (n : ℕ) (d : Date) → d.year ≤ (after n d).year
later zero d = omega arith
later (suc n) d = omega (arith, next-later d, later n (next_date d))

-- from 1 January on, the date of the year's last day is 31 December, and no other date is that, however long one
-- counts
pub eve-exactly : (y n : ℕ) → (after n (new_year y) ≡ new_years_eve y) ↔ (n + 1 ≡ year_length y)
eve-exactly y n = (λ e. to e, λ e. from e)
  where
    at : n < year_length y → At y (1 + n) (after n (new_year y))
    at h = after-at n (at_front y) (omega arith)

    eve : (d : Date) → d ≡ new_years_eve y → IsEve d
    eve d e = record { december = ap (λ (x : Date). x.month) e; last = ap (λ (x : Date). x.day) e }

    -- past the year's length it is a later year
    past : year_length y ≤ n → after n (new_year y) ≡ new_years_eve y → ⊥
    past h e =
        let k : ℕ = n - year_length y in
        let last = after-at (year_length y - 1) (at_front y) (omega (arith, long y)) in
        let year = (last-at last (omega (arith, long y))).next in
        let split : n ≡ (year_length y - 1) + suc k = omega (arith, long y) in
        let far : after n (new_year y) ≡ after k (new_year (y + 1)) =
        ap (λ (i : ℕ). after i (new_year y)) split ∙ after_plus (year_length y - 1) (suc k) (new_year y)
        ∙ ap (after k) year in
        omega (arith, later k (new_year (y + 1)), ap (λ (x : Date). x.year) (sym far ∙ e))
      where
        long : (y : ℕ) → 1 ≤ year_length y
        long y = omega (arith, at_most (at_front y))

    to : after n (new_year y) ≡ new_years_eve y → n + 1 ≡ year_length y
    to e = go (ltb n (year_length y)) refl
      where
        go : (t : Bool) → ltb n (year_length y) ≡ t → n + 1 ≡ year_length y
        go true q = omega (arith, (eve-at (at (ltb-true n (year_length y) q))).1 (eve (after n (new_year y)) e))
        go false q = absurd (past (ltb-false n (year_length y) q) e)

    from : n + 1 ≡ year_length y → after n (new_year y) ≡ new_years_eve y
    from e =
        let x = at (omega arith) in
        let v = (eve-at x).0 (omega arith) in
        one (after n (new_year y)) x.year v
      where
        one : (d : Date) → d.year ≡ y → IsEve d → d ≡ new_years_eve y
        one d p v =
            ap (λ (n : ℕ). date n d.month d.day) p ∙ ap (λ (n : ℕ). date y n d.day) v.december
            ∙ ap (λ (n : ℕ). date y 12 n) v.last

-- ---- a year's dates are those that exist

-- no two dates stand at one place of a year
module _ {y n : ℕ} {d e : Date} (x : At y n d) (z : At y n e) where
  before-grows : (a k : ℕ) → before y a ≤ before y (a + k)
  before-grows a zero = let s : a + 0 ≡ a = omega arith in omega (arith, ap (before y) s)
  before-grows a (suc k) =
      let s : a + suc k ≡ suc (a + k) = omega arith in
      omega (arith, before-grows a k, before-next y (a + k), ap (before y) s)

  no-later : d.month < e.month → ⊥
  no-later h =
      let k = e.month - suc d.month in
      let s : suc d.month + k ≡ e.month = omega arith in
      omega (
        arith,
        x.place,
        x.last,
        z.place,
        z.first,
        before-next y d.month,
        before-grows (suc d.month) k,
        ap (before y) s,
      )

one_at : {y n : ℕ} {d e : Date} → At y n d → At y n e → d ≡ e
one_at {y} {n} {d} {e} x z = go (ltb d.month e.month) (ltb e.month d.month) refl refl
  where
    go : (s t : Bool) → ltb d.month e.month ≡ s → ltb e.month d.month ≡ t → d ≡ e
    go true t p q = absurd (no-later x z (ltb-true d.month e.month p))
    go false true p q = absurd (no-later z x (ltb-true e.month d.month q))
    go false false p q =
        let m : d.month ≡ e.month =
        omega (arith, ltb-false d.month e.month p, ltb-false e.month d.month q) in
        let k : d.day ≡ e.day = omega (arith, x.place, z.place, ap (before y) m) in
        ap (λ (i : ℕ). date i d.month d.day) (x.year ∙ sym z.year)
        ∙ ap (λ (i : ℕ). date e.year i d.day) m
        ∙ ap (λ (i : ℕ). date e.year e.month i) k

-- from 1 January on come all days of the year that there are, and no other
pub exists_exactly : (d : Date) → Exists d ↔ Comes d
exists_exactly d = (λ x. to x, λ c. from c)
  where
    to : Exists d → Comes d
    to x =
        let n = before d.year d.month + d.day in
        let at : At d.year n d = record { year = refl; first = x.first; last = x.last; place = refl } in
        let k : 1 + (n - 1) ≡ n = omega (arith, x.first) in
        let there = after-at (n - 1) (at_front d.year) (omega (arith, at_most at, k)) in
        record {
          days = n - 1;
          within = omega (arith, at_most at, k);
          reached = one_at (subst (λ (i : ℕ). At d.year i (after (n - 1) (new_year d.year))) k there) at;
        }

    from : Comes d → Exists d
    from c = subst Exists c.reached (at_exists (after-at c.days (at_front d.year) (omega (arith, c.within))))

-- ---- 29 February

module _ (y : ℕ) (leap : is_leap y ≡ true) where
  february : days_in y 2 ≡ 29
  unfolding days_in
  february = simp (days_in, leap)

  in_february : (n k : ℕ) → k + n ≤ 29 → after n (date y 2 k) ≡ date y 2 (k + n)
  in_february zero k h = let s : k ≡ k + 0 = omega arith in ap (date y 2) s
  in_february (suc n) k h =
      let s : k + 1 + n ≡ k + suc n = omega arith in
      ap (after n) (next_in_month (date y 2 k) (omega (arith, february))) ∙ in_february n (k + 1) (omega arith)
      ∙ ap (date y 2) s

  january : after 31 (new_year y) ≡ date y 2 1
  unfolding next_date days_in
  january = refl

  -- in a leap year the date of the sixtieth day is 29 February
  pub leap_day : after 59 (new_year y) ≡ date y 2 29
  leap_day = after_plus 31 28 (new_year y) ∙ ap (after 28) january ∙ in_february 28 1 (omega arith)

-- ---- the dates one after the other

pub dates-length : (n : ℕ) (d : Date) → length (dates_from n d) ≡ n
dates-length zero d = refl
dates-length (suc n) d = ap suc (dates-length n (next_date d))

-- the dates of some days are those of one day less, and then the one so many days later
pub dates-last : (k : ℕ) (d : Date) → dates_from (suc k) d ≡ dates_from k d ++ (after k d ∷ [])
dates-last zero d = refl
dates-last (suc k) d = ap (λ (l : List Date). d ∷ l) (dates-last k (next_date d))

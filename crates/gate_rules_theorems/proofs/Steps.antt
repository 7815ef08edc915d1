-- A log that is being read: the records before this one said the first days of a year, and what is given for this one
-- is the first refusal that applies. Assumes nothing.
use Prim.Native.Nat.{ℕ, zero, suc, ◌+◌, ◌<◌}
use mathlib.Core.Path.{◌≡◌, refl, sym, ap, subst, ◌∙◌}
use mathlib.Core.Logic.{◌↔◌}
use mathlib.Core.Bool.{Bool, true, false}
use mathlib.Core.List.{List, [], ◌∷◌, ◌++◌}
use native.Mathlib.Omega.{arith}
use lib.Dec.{eqb, ltb}
use borrow.Author.Tests.{eq-eqb, eqb-true, ltb-true, ltb-false}
use Rattle.std.specs.Prelude.{Result, Ok, Err}
use Rattle.base.specs.Pick.{pick}
use Rattle.base.proofs.Clash.{clash}
use Rattle.base.specs.Refused.{refuse}
use Rattle.grammar.specs.Reading.{parts_of}
use Rattle.rules_theorems.specs.Lists.{Last, only, Pairs}
use Rattle.first_refusal.specs.Records.{Record}
use Rattle.rules_theorems.proofs.Lists.{last-append, last_none, last_one, pairs-append}
use Rattle.calendar.specs.declared.Date.{Date}
use Rattle.calendar.specs.declared.Due.{Due}
use Rattle.calendar.specs.declared.Due.TheVariants.{On, Nothing}
use Rattle.calendar.specs.Calendar.{date, year_length, new_year, next_date, after, dates_from, same_day}
use Rattle.calendar.specs.Calendar.{same_date, IsEve}
use Rattle.calendar.specs.Following.{is_due, due_after}
use Rattle.dates.specs.Texts.{IsDate}
use Rattle.dates.proofs.DateTexts.{one-date}
use Rattle.calendar.proofs.Years.{At, at_front, at_most, eve-at, next-at, last-at, after-at, dates-last}
use Rattle.outdoors.specs.declared.Day.{Day}
use Rattle.gate.specs.declared.Progress.{Progress}
use Rattle.gate_days.specs.declared.LogRefusal.{LogRefusal}
use Rattle.gate_days.specs.declared.LogRefusal.TheVariants.{NotThreeFields, BadHours, WrongDate}
use Rattle.gate_days.specs.Refusals.{number}
use Rattle.gate_days.specs.Days.{day_of}
use Rattle.outdoors.specs.Tallies.{with_day}
use Rattle.outdoors.specs.Outdoors.{outdoors_of}
use Rattle.gate.specs.Logs.{progress, nothing_read, taken_by, finished, LogAnswer}
use Rattle.outdoors.proofs.Tallied.{tally_of, tally-last, tally-outdoors}
use Rattle.gate_rules_theorems.specs.Rules.{date_text, RecordSays, dates_of, LogOf}
use Rattle.gate_rules_theorems.specs.Refusals.{DueAfter, at_new_year, next, Applies, not_three_fields, bad_hours}
use Rattle.gate_rules_theorems.specs.Refusals.{wrong_date}
use Rattle.gate_rules_theorems.proofs.Days.{Alone, says, not_three, no-hours, no-date, alone}

-- ---- dates that are one

same-day : (m k : ℕ) (d : Date) → same_day m k d ≡ true → (d.month ≡ m) × (d.day ≡ k)
same-day m k d e = go (eqb d.month m) refl e
  where
    go : (t : Bool) → eqb d.month m ≡ t → pick t (eqb d.day k) false ≡ true → (d.month ≡ m) × (d.day ≡ k)
    go true p q = (eqb-true d.month m p, eqb-true d.day k q)
    go false p q = clash cc

new-year-date : (d : Date) → same_day 1 1 d ≡ true → d ≡ new_year d.year
new-year-date d e =
    let x = same-day 1 1 d e in
    ap (λ (n : ℕ). date d.year n d.day) x.0 ∙ ap (λ (n : ℕ). date d.year 1 n) x.1

same-date : (a b : Date) → same_date a b ≡ true → b ≡ a
same-date a b e = go (eqb b.year a.year) refl e
  where
    go : (t : Bool) → eqb b.year a.year ≡ t → pick t (same_day a.month a.day b) false ≡ true → b ≡ a
    go true p q =
        let x = same-day a.month a.day b q in
        ap (λ (n : ℕ). date n b.month b.day) (eqb-true b.year a.year p)
        ∙ ap (λ (n : ℕ). date a.year n b.day) x.0
        ∙ ap (λ (n : ℕ). date a.year a.month n) x.1
    go false p q = clash cc

pub one_same : (a : Date) → same_date a a ≡ true
one_same a = simp (eq-eqb a.year a.year refl, eq-eqb a.month a.month refl, eq-eqb a.day a.day refl)

-- the date of the year's day k, counted from 0
abbrev pub date_at : ℕ → ℕ → Date
date_at y k = after k (new_year y)

pub after_next : (k : ℕ) (d : Date) → next_date (after k d) ≡ after (suc k) d
after_next zero d = refl
after_next (suc k) d = after_next k (next_date d)

pub at_place : (y k : ℕ) → k < year_length y → At y (suc k) (date_at y k)
at_place y k h = subst (λ (i : ℕ). At y i (date_at y k)) (omega arith) (after-at k (at_front y) (omega arith))

-- what is due behind a date of the year
pub due-next : (y k : ℕ) → suc k < year_length y → due_after (date_at y k) ≡ On (date_at y (suc k))
due-next y k h = (next-at (at_place y k (omega arith)) h).due ∙ ap On (after_next k (new_year y))

pub due-end : (y k : ℕ) → suc k ≡ year_length y → due_after (date_at y k) ≡ Nothing
due-end y k h = (last-at (at_place y k (omega arith)) h).due

-- ---- the records before this one, and how far the log is read with them

pub data Inv : List Record → Progress → Type 0 where
  start : Inv [] nothing_read
  reading : {before : List Record} {days : List Day} {r : Record} (y k : ℕ) → Pairs RecordSays before days
      → dates_of days ≡ dates_from (suc k) (new_year y) → k < year_length y
      → Last before r → IsDate (date_text r) (date_at y k)
      → Inv before (progress (due_after (date_at y k)) (tally_of days))

-- what is due is what has to come behind the records
due_rule : {before : List Record} {p : Progress} → Inv before p → (d : Date)
    → (is_due p.due d ≡ true) ↔ DueAfter before d
due_rule start d = (λ e. subst (DueAfter []) (sym (new-year-date d e)) (at_new_year refl), λ x. from x)
  where
    from : {d : Date} → DueAfter [] d → same_day 1 1 d ≡ true
    from (at_new_year _) = refl
    from (next l _ _) = last_none l
due_rule (reading {before} {days} {r} y k s q h l i) d = go (ltb (suc k) (year_length y)) refl
  where
    -- a date that has to come is the next, and the one before is not 31 December
    back : {d : Date} → DueAfter before d → (d ≡ date_at y (suc k)) × (IsEve (date_at y k) → ⊥)
    back (at_new_year e) = last_none (subst (λ (b : List Record). Last b r) e l)
    back (next {r = r'} {d = d'} l' i' n) =
        let same : d' ≡ date_at y k =
        one-date i' (subst (λ (c : Record). IsDate (date_text c) (date_at y k)) (last_one l l') i) in
        (ap next_date same ∙ after_next k (new_year y), λ v. n (subst IsEve (sym same) v))

    go : (t : Bool) → ltb (suc k) (year_length y) ≡ t → (is_due (due_after (date_at y k)) d ≡ true) ↔ DueAfter before d
    go true e =
        let less : suc k < year_length y = ltb-true (suc k) (year_length y) e in
        rw (due-next y k less) (
          λ same.
              subst (DueAfter before) (after_next k (new_year y) ∙ sym (same-date (date_at y (suc k)) d same))
              (next l i (λ v. omega (arith, (eve-at (at_place y k h)).1 v))),
          λ x. ap (same_date (date_at y (suc k))) (back x).0 ∙ one_same (date_at y (suc k)),
        )
    go false e =
        let full : suc k ≡ year_length y = omega (arith, ltb-false (suc k) (year_length y) e) in
        rw (due-end y k full)
        (λ same. clash cc, λ x. absurd ((back x).1 ((eve-at (at_place y k h)).0 full)))

-- ---- this record

-- none of the refusals below a number applies
abbrev pub NoneBelow : List Record → Record → ℕ → Type 0
NoneBelow before cs n = (f : LogRefusal) → number f < n → Applies before cs f → ⊥

-- what is to be shown of a record: it is refused, by the first that applies, or none applies and reading goes on
pub data Verdict (before : List Record) (cs : Record) (p : Progress) : Result Progress LogRefusal → Type 0 where
  refuses : {refusal : LogRefusal} → Applies before cs refusal → NoneBelow before cs (number refusal)
      → Verdict before cs p (Err refusal)
  goes_on : {q : Progress} → ((f : LogRefusal) → Applies before cs f → ⊥) → Inv (before ++ (cs ∷ [])) q
      → Verdict before cs p (Ok q)

dates-append : (a b : List Day) → dates_of (a ++ b) ≡ dates_of a ++ dates_of b
dates-append [] b = refl
dates-append (d ∷ a) b = ap (λ (l : List Date). d.date ∷ l) (dates-append a b)

module _ {before : List Record} {p : Progress} (inv : Inv before p) (cs : Record) where
  -- by itself it says a day
  module _ {d : Day} (x : RecordSays cs d) where
    no_3 : Applies before cs NotThreeFields → ⊥
    no_3 (not_three_fields n) = n x.three

    no_7 : Applies before cs BadHours → ⊥
    no_7 (bad_hours n) = n d.pasture d.yard x.hours

    below_14 : NoneBelow before cs 14
    below_14 f h (not_three_fields n) = n x.three
    below_14 f h (bad_hours n) = n d.pasture d.yard x.hours
    below_14 f h (wrong_date n) = omega arith

    none_at_all : DueAfter before d.date → (f : LogRefusal) → Applies before cs f → ⊥
    none_at_all due f (not_three_fields n) = n x.three
    none_at_all due f (bad_hours n) = n d.pasture d.yard x.hours
    none_at_all due f (wrong_date n) = n d.date x.date due

  further : {before : List Record} {p : Progress} → Inv before p → {d : Day} → RecordSays cs d
      → is_due p.due d.date ≡ true
      → Inv (before ++ (cs ∷ [])) (progress (due_after d.date) (with_day p.tally d))
  further start {d} x e =
      let y : ℕ = d.date.year in
      let is : d.date ≡ new_year y = new-year-date d.date e in
      subst (λ (q : Progress). Inv (cs ∷ []) q)
      (ap (λ (z : Date). progress (due_after z) (tally_of (d ∷ []))) (sym is)
      ∙ ap (progress (due_after d.date)) (tally-last [] d))
      (reading y 0 (Pairs.more x Pairs.none) (ap (λ (z : Date). z ∷ []) is) (omega (arith, at_most (at_front y))) only
      (subst (IsDate (date_text cs)) is x.date))
  further {before} (reading {days = days} y k s q h l i) {d} x e = go (ltb (suc k) (year_length y)) refl
    where
      go : (t : Bool) → ltb (suc k) (year_length y) ≡ t
          → Inv (before ++ (cs ∷ [])) (progress (due_after d.date) (with_day (tally_of days) d))
      go true t =
          let less : suc k < year_length y = ltb-true (suc k) (year_length y) t in
          let is : d.date ≡ date_at y (suc k) =
          same-date (date_at y (suc k)) d.date
          (ap (λ (u : Due). is_due u d.date) (sym (due-next y k less)) ∙ e) in
          subst (λ (z : Progress). Inv (before ++ (cs ∷ [])) z)
          (ap (λ (z : Date). progress (due_after z) (tally_of (days ++ (d ∷ [])))) (sym is)
          ∙ ap (progress (due_after d.date)) (tally-last days d))
          (reading y (suc k) (pairs-append s (Pairs.more x Pairs.none))
          (dates-append days (d ∷ [])
          ∙ ap (λ (a : List Date). a ++ (d.date ∷ [])) q
          ∙ ap (λ (z : Date). dates_from (suc k) (new_year y) ++ (z ∷ [])) is
          ∙ sym (dates-last (suc k) (new_year y)))
          less
          (last-append before only)
          (subst (IsDate (date_text cs)) is x.date))
      go false t =
          let full : suc k ≡ year_length y = omega (arith, ltb-false (suc k) (year_length y) t) in
          let never : false ≡ true = ap (λ (u : Due). is_due u d.date) (sym (due-end y k full)) ∙ e in
          clash cc

  pub verdict : Verdict before cs p (taken_by p (day_of (parts_of cs)))
  verdict = go (alone cs)
    where
      due : {d : Day} → RecordSays cs d → (t : Bool) → is_due p.due d.date ≡ t
          → Verdict before cs p
          (pick t (Ok (progress (due_after d.date) (with_day p.tally d))) (Err WrongDate))
      due {d} x true e = goes_on (none_at_all x ((due_rule inv d.date).0 e)) (further inv x e)
      due {d} x false e =
          refuses
          (wrong_date (λ z i k.
          let w : is_due p.due d.date ≡ true = ap (is_due p.due) (one-date x.date i) ∙ (due_rule inv z).1 k in
          clash cc))
          (below_14 x)

      go : {r : Result Day LogRefusal} → Alone cs r → Verdict before cs p (taken_by p r)
      go (says {d} x) = due x (is_due p.due d.date) refl
      go (not_three n) = refuses (not_three_fields n) three
        where
          three : NoneBelow before cs 3
          three f h (not_three_fields _) = omega arith
          three f h (bad_hours _) = omega arith
          three f h (wrong_date _) = omega arith
      go (no-hours n none) = refuses (bad_hours none) seven
        where
          seven : NoneBelow before cs 7
          seven f h (not_three_fields m) = m n
          seven f h (bad_hours _) = omega arith
          seven f h (wrong_date _) = omega arith
      go (no-date {p = a} {q = b} n h none) = refuses (wrong_date (λ d i _. none d i)) fourteen
        where
          fourteen : NoneBelow before cs 14
          fourteen f k (not_three_fields m) = m n
          fourteen f k (bad_hours m) = m a b h
          fourteen f k (wrong_date _) = omega arith

-- ---- the log is read through

-- the last of the records is of a 31 December
pub record OnEve (rs : List Record) : Type 0 where
  pub last : Record
  pub date : Date
  pub is_last : Last rs last
  pub says : IsDate (date_text last) date
  pub eve : IsEve date

pub data Ended (rs : List Record) : LogAnswer → Type 0 where
  whole : {days : List Day} → LogOf rs days → OnEve rs → Ended rs (Ok (outdoors_of days))
  early : ((r : Record) (d : Date) → Last rs r → IsDate (date_text r) d → IsEve d → ⊥) → Ended rs (refuse WrongDate 0)

pub finish : {rs : List Record} {p : Progress} → Inv rs p → Ended rs (finished p)
unfolding finished
finish start = early (λ r d l. last_none l)
finish {rs} (reading {days = days} {r = r} y k s q h l i) = go (ltb (suc k) (year_length y)) refl
  where
    go : (t : Bool) → ltb (suc k) (year_length y) ≡ t
        → Ended rs (finished (progress (due_after (date_at y k)) (tally_of days)))
    go true t =
        let less : suc k < year_length y = ltb-true (suc k) (year_length y) t in
        rw (due-next y k less)
        (early (λ r' d l' i' v.
        let same : d ≡ date_at y k =
        one-date i' (subst (λ (c : Record). IsDate (date_text c) (date_at y k)) (last_one l l') i) in
        omega (arith, (eve-at (at_place y k h)).1 (subst IsEve same v))))
    go false t =
        let full : suc k ≡ year_length y = omega (arith, ltb-false (suc k) (year_length y) t) in
        rw (due-end y k full)
        (subst (Ended rs) (ap Ok (sym (tally-outdoors days)))
        (whole
        (record { says = s; year = y; dates = q ∙ ap (λ (n : ℕ). dates_from n (new_year y)) full })
        (record { last = r; date = date_at y k; is_last = l; says = i; eve = (eve-at (at_place y k h)).0 full })))

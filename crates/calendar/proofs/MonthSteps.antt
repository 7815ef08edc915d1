-- The days of a month and the date that is due, from the calls that look at the year and the month: each law in the
-- form that a place of src/lib.rt wants. Assumes nothing.
use Prim.Native.Nat.{ℕ, zero, suc, ◌+◌, ◌<◌, ◌≤◌}
use mathlib.Core.Path.{◌≡◌, refl, sym, ap, ◌∙◌}
use mathlib.Core.Bool.{Bool, true, false}
use mathlib.Core.List.{◌∷◌}
use lib.ListN.{get_or}
use borrow.Author.Tests.{lt-ltb, le-ltb}
use Rattle.calendar.specs.declared.Date.{Date}
use Rattle.calendar.specs.declared.Due.TheVariants.{On, Nothing}
use Rattle.calendar.specs.Calendar.{date, is_leap, months_of, days_in}
use Rattle.calendar.specs.Following.{due_after}

-- ---- months

module _ (y : ℕ) {t : Bool} (q : t ≡ is_leap y) where
  pub february-long : t ≡ true → 29 ≡ days_in y 2
  unfolding days_in
  february-long e = simp (days_in, sym q ∙ e)

  pub february-short : t ≡ false → 28 ≡ days_in y 2
  unfolding days_in
  february-short e = simp (days_in, sym q ∙ e)

pub february-is : (y m : ℕ) {r : ℕ} → m ≡ 2 → r ≡ days_in y 2 → r ≡ days_in y m
february-is y m e q = q ∙ ap (days_in y) (sym e)

-- the months but February are as long in every year
alike : (leap : Bool) (m : ℕ) → (m ≡ 2 → ⊥) → get_or (0 ∷ months_of false) m 0 ≡ get_or (0 ∷ months_of leap) m 0
alike leap zero n = refl
alike leap (suc zero) n = refl
alike leap (suc (suc zero)) n = absurd (n refl)
alike leap (suc (suc (suc m))) n = refl

pub month_is : (y m : ℕ) → (m ≡ 2 → ⊥) → get_or (0 ∷ months_of false) m 0 ≡ days_in y m
unfolding days_in
month_is y m n = alike (is_leap y) m n

pub ruleset month_steps = (february-long, february-short, february-is, month_is)

-- ---- what is due

module _ (d : Date) {n : ℕ} (q : n ≡ days_in d.year d.month) where
  pub due_in_month : d.day < n → On (date d.year d.month (d.day + 1)) ≡ due_after d
  unfolding due_after
  due_in_month h = simp (due_after, sym q, lt-ltb d.day n h)

  pub due_in_next : n ≤ d.day → d.month < 12 → On (date d.year (d.month + 1) 1) ≡ due_after d
  unfolding due_after
  due_in_next h k = simp (due_after, sym q, le-ltb d.day n h, lt-ltb d.month 12 k)

  pub due-nothing : n ≤ d.day → 12 ≤ d.month → Nothing ≡ due_after d
  unfolding due_after
  due-nothing h k = simp (due_after, sym q, le-ltb d.day n h, le-ltb d.month 12 k)

pub ruleset due_steps = (due_in_month, due_in_next, due-nothing)

-- 02, W2: the reason that is given is the first in order whose fact holds, and there is one; the share of the figures'
-- formula is the one that follows from it; and it is `Lowered` exactly where the note on the share holds.
-- Assumes nothing.
use Rattle.std.specs.Prelude.{None, Some}
use Prim.Native.Nat.{ℕ, ◌+◌, ◌-◌, ◌*◌, ◌≤◌, ◌<◌}
use mathlib.Core.Path.{◌≡◌, refl, sym, ap, subst, ◌∙◌}
use mathlib.Core.Logic.{◌↔◌}
use mathlib.Core.Bool.{Bool, true, false, not, ◌&&◌}
use mathlib.Core.List.{[], ◌∷◌}
use native.Mathlib.Omega.{arith}
use lib.Dec.{eqb, leb, ltb}
use lib.ListN.{get_or}
use borrow.Author.Tests.{eqb-true, eqb-false, leb-true, leb-false, ltb-true, ltb-false, lt-ltb, le-ltb}
use Rattle.base.specs.Pick.{pick}
use Rattle.base.proofs.Clash.{clash}
use Rattle.amounts.specs.Units.{year}
use Rattle.kinds.specs.declared.ExerciseYard.{ExerciseYard}
use Rattle.kinds.specs.declared.ExerciseYard.TheVariants as yards
use Rattle.kinds.specs.declared.Outdoor.{Outdoor}
use Rattle.kinds.specs.declared.Inputs.{Inputs}
use Rattle.kinds.specs.declared.Inputs.TheVariants as kinds
use Rattle.yard.specs.Yard.{days_with_grazing_and_yard, share_excretion, share_lowered}
use Rattle.yard.specs.Yard.{share_excretion_with_grazing, yard_time}
use Rattle.notes.specs.Notes.{notes_of}
use Rattle.reasons.specs.declared.Reason.{Reason}
use Rattle.reasons.specs.declared.Reason.TheVariants.{NoSuchDays, NotAvailable, AsChosen, Lowered}
use Rattle.reasons.specs.Reasons.{number, partly, chosen_share, is_not_available, reason_of, share_from, why_of}
use Rattle.reasons.specs.Reasons.{told_of}
use Rattle.reasons.specs.Reasons.{Fact, no_such_days, not_available, as_chosen, lowered, FirstReason}
use Rattle.reasons.specs.Reasons.{HasOutdoor, cattle}

-- ---- the facts and the tests

days-none : (o : Outdoor) → (days_with_grazing_and_yard o ≡ 0) ↔ (o.grazing_days + o.yard_days ≤ year)
unfolding days_with_grazing_and_yard
days-none o = (to (ltb year sum) refl, λ h. rw (le-ltb year sum h))
  where
    sum : ℕ
    sum = o.grazing_days + o.yard_days

    to : (t : Bool) → ltb year sum ≡ t → pick t (sum - year) 0 ≡ 0 → sum ≤ year
    to true e z = omega (arith, ltb-true year sum e)
    to false e z = ltb-false year sum e

is-not_available : (yard : ExerciseYard) → is_not_available yard ≡ true → yard ≡ yards.NotAvailable
is-not_available yards.NotAvailable e = refl
is-not_available yards.NotSupplied e = clash cc
is-not_available yards.Partly e = clash cc
is-not_available yards.Exclusively e = clash cc

-- ---- the first whose fact holds

module _ (o : Outdoor) where
  abbrev both : ℕ
  both = days_with_grazing_and_yard o

  abbrev yard : ExerciseYard
  yard = o.exercise_yard

  -- no fact holds of which the test failed
  none_below : (n : ℕ) → (1 < n → eqb both 0 ≡ false) → (2 < n → is_not_available yard ≡ false)
      → (3 < n → leb (chosen_share o) partly ≡ false) → (other : Reason) → Fact o other → number other < n → n ≤ 4 → ⊥
  none_below n a b c other (no_such_days h) l m = eqb-false both 0 (a l) ((days-none o).1 h)
  none_below n a b c other (not_available e) l m =
      let t : is_not_available yard ≡ true = rw e in let f = b l in clash cc
  none_below n a b c other (as_chosen h) l m = let t = leb-false (chosen_share o) partly (c l) in omega arith
  none_below n a b c other (lowered h) l m = omega arith

  late : {A : Type 0} {m n : ℕ} → n ≤ m → m < n → A
  late h l = absurd (omega arith)

  given : FirstReason o (reason_of o)
  unfolding reason_of
  given = go (eqb both 0) (is_not_available yard) (leb (chosen_share o) partly) refl refl refl
    where
      go : (a b c : Bool) → eqb both 0 ≡ a → is_not_available yard ≡ b → leb (chosen_share o) partly ≡ c
          → FirstReason o (pick a NoSuchDays (pick b NotAvailable (pick c AsChosen Lowered)))
      go true b c ea eb ec =
          record {
            holds = no_such_days ((days-none o).0 (eqb-true both 0 ea));
            none_sooner = λ other f l.
                none_below 1 (late (omega arith)) (late (omega arith)) (late (omega arith)) other f l (omega arith);
          }
      go false true c ea eb ec =
          record {
            holds = not_available (is-not_available yard eb);
            none_sooner = λ other f l.
                none_below 2 (λ x. ea) (late (omega arith)) (late (omega arith)) other f l (omega arith);
          }
      go false false true ea eb ec =
          record {
            holds = as_chosen (leb-true (chosen_share o) partly ec);
            none_sooner = λ other f l. none_below 3 (λ x. ea) (λ x. eb) (late (omega arith)) other f l (omega arith);
          }
      go false false false ea eb ec =
          record {
            holds = lowered (leb-false (chosen_share o) partly ec);
            none_sooner = λ other f l. none_below 4 (λ x. ea) (λ x. eb) (λ x. ec) other f l (omega arith);
          }

-- ---- there is one

abbrev numbered : ℕ → Reason
numbered n = get_or (NoSuchDays ∷ NoSuchDays ∷ NotAvailable ∷ AsChosen ∷ []) n Lowered

of_number : (r : Reason) → numbered (number r) ≡ r
of_number NoSuchDays = refl
of_number NotAvailable = refl
of_number AsChosen = refl
of_number Lowered = refl

pub one-reason : (o : Outdoor) {r s : Reason} → FirstReason o r → FirstReason o s → r ≡ s
one-reason o {r} {s} a b =
    let e : number r ≡ number s = omega (arith, b.none_sooner r a.holds, a.none_sooner s b.holds) in
    sym (of_number r) ∙ ap numbered e ∙ of_number s

pub first-reason : (o : Outdoor) (r : Reason) → (reason_of o ≡ r) ↔ FirstReason o r
first-reason o r = (λ e. subst (FirstReason o) e (given o), λ f. one-reason o (given o) f)

-- ---- the share of the figures' formula is the one that the reason gives

-- there are such days, or there are none
above : (days : ℕ) → ltb 0 days ≡ not (eqb days 0)
above days = go (eqb days 0) refl
  where
    go : (t : Bool) → eqb days 0 ≡ t → ltb 0 days ≡ not t
    go true e = le-ltb 0 days (omega (arith, eqb-true days 0 e))
    go false e = let n = eqb-false days 0 e in lt-ltb 0 days (omega arith)

-- the reason by the yard, and by whether there are no such days
abbrev reason_by : Bool → ExerciseYard → Reason
reason_by none yard =
    pick none NoSuchDays
    (pick (is_not_available yard) NotAvailable
    (pick (leb (share_excretion yard) partly) AsChosen Lowered))

pub share-follows : (o : Outdoor) → share_excretion_with_grazing o ≡ share_from (reason_of o) (chosen_share o)
unfolding reason_of share_excretion_with_grazing share_lowered
share-follows o =
    rw (above (days_with_grazing_and_yard o)) (go (eqb (days_with_grazing_and_yard o) 0) o.exercise_yard)
  where
    go : (none : Bool) (yard : ExerciseYard) → let share = share_excretion yard in
        pick (not none && ltb partly share) partly share ≡ share_from (reason_by none yard) share
    go true yard = refl
    go false yards.NotAvailable = refl
    go false yards.NotSupplied = refl
    go false yards.Partly = refl
    go false yards.Exclusively = refl

-- so the part of the year on the yard goes by what is told: the days, the chosen share and the share on those days
pub yard_time-told : (o : Outdoor) → let w = why_of o in
    yard_time o ≡ w.chosen * (o.yard_days - w.days) + w.share * w.days
unfolding yard_time
yard_time-told o =
    let days = days_with_grazing_and_yard o in
    ap (λ (x : ℕ). chosen_share o * (o.yard_days - days) + x * days) (share-follows o)

-- ---- lowered exactly where the note holds

pub lowered_where_noted : (o : Outdoor) → (reason_of o ≡ Lowered) ↔ (share_lowered o ≡ true)
unfolding reason_of share_lowered
lowered_where_noted o =
    rw (above (days_with_grazing_and_yard o)) (go (eqb (days_with_grazing_and_yard o) 0) o.exercise_yard)
  where
    go : (none : Bool) (yard : ExerciseYard)
        → (reason_by none yard ≡ Lowered) ↔ ((not none && ltb partly (share_excretion yard)) ≡ true)
    go true yard = (λ e. clash cc, λ e. clash cc)
    go false yards.NotAvailable = (λ e. clash cc, λ e. clash cc)
    go false yards.NotSupplied = (λ e. clash cc, λ e. clash cc)
    go false yards.Partly = (λ e. clash cc, λ e. clash cc)
    go false yards.Exclusively = (λ e. refl, λ e. refl)

pub noted_where_lowered : {i : Inputs} {o : Outdoor} → HasOutdoor i o
    → ((notes_of i).share_lowered ≡ true) ↔ (reason_of o ≡ Lowered)
unfolding notes_of
noted_where_lowered (cattle {c = c}) = let w = lowered_where_noted c.outdoor in (w.1, w.0)

-- ---- who is told, and who has no yard

pub told_of_lem : {i : Inputs} {o : Outdoor} → HasOutdoor i o → told_of i ≡ Some (why_of o)
unfolding told_of
told_of_lem cattle = refl

-- a herd without a yard is told so, and no note says that its share is lowered
pub no-yard : (i : Inputs) → ((o : Outdoor) → HasOutdoor i o → ⊥)
    → (told_of i ≡ None) × ((notes_of i).share_lowered ≡ false)
unfolding told_of notes_of
no-yard (kinds.Roughage r) n = (refl, refl)
no-yard (kinds.Cattle c) n = absurd (n c.outdoor cattle)
no-yard (kinds.Pigs p) n = (refl, refl)

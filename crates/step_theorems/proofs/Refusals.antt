-- The first refusal of a step: a step is refused exactly with the first refusal that applies, and done exactly where
-- none applies; and there is one first, for every array, book, step and herd. Assumes nothing.
use Rattle.std.specs.Prelude.{Err}
use Prim.Native.Nat.{ℕ, zero, suc, ◌<◌, ◌≤◌, min}
use mathlib.Core.Path.{◌≡◌, refl, sym, ap, subst, ◌∙◌}
use mathlib.Core.Logic.{◌↔◌}
use mathlib.Core.Bool.{Bool, true, false, ◌||◌}
use mathlib.Core.List.{List, [], ◌∷◌}
use native.Mathlib.Omega.{arith}
use lib.Dec.{leb, ltb}
use lib.ListN.{length, get_or, take, length-take}
use lib.Seq.{get_or-take}
use lib.IntN.{ℤ, nat_abs}
use borrow.Author.Tests.{ltb-true, leb-true, leb-false, not-true, not-false}
use Rattle.base.specs.First.{first}
use Rattle.base.proofs.Clash.{clash}
use Rattle.base.proofs.Holds.{both_true}
use Rattle.inputs.specs.Inputs.{Row, rows_of, last_of, form_of}
use Rattle.farm.specs.declared.Herd.{Herd}
use Rattle.farm.specs.declared.Farm.{Farm}
use Rattle.farm.specs.declared.Refusal.{Refusal}
use Rattle.farm.specs.declared.Refusal.TheVariants.{BadLabel, BadValue, EarlierLabel, NoRoomForHerd, InputMissing}
use Rattle.farm.specs.Limits.{herds_most}
use Rattle.farm.specs.Labels.{label_ok, same_label}
use Rattle.farm.specs.Herds.{no_herd}
use Rattle.farm.specs.Answers.{Checked}
use Rattle.herd_tests.specs.Tests.{lacks, earlier_label}
use Rattle.fits.specs.Fits.{unfit}
use Rattle.first_refusal.specs.First.{FirstOf}
use Rattle.first_refusal.proofs.Order.{compare}
use Rattle.checks.specs.Checks.{check_farm, herds_of}
use Rattle.checks.proofs.Places.{missing-found, none-missing, unfit-found, none-unfit, label-found, none-labelled}
use Rattle.lent.specs.Laid.{farm_in}
use Rattle.lent.proofs.Loaded.{loaded_herds}
use Rattle.farm_calls.specs.Refusals as calls
use Rattle.farm_calls.specs.Refusals.{AppliesIn, FirstIn, GetsIn}
use Rattle.farm_calls.proofs.Refusals.{gets_in, one-first_in, accepted-within}
use Rattle.outputs.specs.Grams.{grams_at}
use Rattle.books.specs.declared.Book.{Book}
use Rattle.books.specs.declared.Step.{Step}
use Rattle.books.specs.declared.StepRefusal.{StepRefusal}
use Rattle.books.specs.declared.StepRefusal.TheVariants.{Record, NotPresent, TotalTooLarge}
use Rattle.books.specs.Rules.{total_most, any_beyond, beyond, Rule, rules, is_of, tests, decided_after, decided_of}
use Rattle.books.specs.Answers.{decided_in}
use Rattle.books.specs.Rules.{Decided, Done}
use Rattle.book_totals.proofs.Beyond.{within-most}
use Rattle.step_theorems.specs.Refusals.{NamedAt, Full, the_array, the_most}
use Rattle.step_theorems.specs.Refusals.{AppliesToStep, Turn, Fault, of_farm, of_step, told_by}
use Rattle.step_theorems.specs.Refusals.{AppliesTo, to_farm, to_step}
use Rattle.step_theorems.specs.Refusals.{Sooner, within_farm, farm_first, in_that_order}
use Rattle.step_theorems.specs.Refusals.{FirstOfStep, StepGets, done, gets_refusal}
use Rattle.step_theorems.proofs.Rules.{every, every-step, names-one, of-names, brings-one, of-brings}
use Rattle.step_theorems.proofs.Rules.{adds_one, of-adds, right-false}
use Rattle.step_theorems.proofs.Rules.{applies, rule_at, Verdict, quiet, gives, verdict}

-- ---- turns

one-turn : {x : StepRefusal} {s t : ℕ} → Turn x s → Turn x t → s ≡ t
one-turn Turn.total Turn.total = refl
one-turn Turn.label Turn.label = refl
one-turn Turn.not_present Turn.not_present = refl
one-turn Turn.present Turn.present = refl
one-turn Turn.room Turn.room = refl
one-turn Turn.missing Turn.missing = refl
one-turn Turn.value Turn.value = refl

-- the refusal of a turn
abbrev refusal_at : ℕ → StepRefusal
refusal_at n =
    get_or
    (TotalTooLarge
    ∷ Record BadLabel
    ∷ NotPresent
    ∷ Record EarlierLabel
    ∷ Record NoRoomForHerd
    ∷ Record InputMissing
    ∷ [])
    n
    (Record BadValue)

of-turn : {x : StepRefusal} {t : ℕ} → Turn x t → refusal_at t ≡ x
of-turn Turn.total = refl
of-turn Turn.label = refl
of-turn Turn.not_present = refl
of-turn Turn.present = refl
of-turn Turn.room = refl
of-turn Turn.missing = refl
of-turn Turn.value = refl

record Turned (x : StepRefusal) : Type 0 where
  turn : ℕ
  last : turn ≤ 6
  has : Turn x turn

turned : {array : List Herd} {book : Book} {step : Step} {h : Herd} {x : StepRefusal}
    → AppliesToStep array book step h x → Turned x
turned (AppliesToStep.too_large _ _) = record { turn = 0; last = omega arith; has = Turn.total }
turned (AppliesToStep.bad_label _) = record { turn = 1; last = omega arith; has = Turn.label }
turned (AppliesToStep.not_present _ _) = record { turn = 2; last = omega arith; has = Turn.not_present }
turned (AppliesToStep.present _ _) = record { turn = 3; last = omega arith; has = Turn.present }
turned (AppliesToStep.full _ _) = record { turn = 4; last = omega arith; has = Turn.room }
turned (AppliesToStep.input_missing _ _ _) = record { turn = 5; last = omega arith; has = Turn.missing }
turned (AppliesToStep.bad_value _ _ _) = record { turn = 6; last = omega arith; has = Turn.value }

-- ---- 16

record BeyondAt (g : List ℤ) : Type 0 where
  number : ℕ
  more : total_most < nat_abs (grams_at g number)

beyond-at : (g : List ℤ) → any_beyond g ≡ true → BeyondAt g
beyond-at [] e = clash cc
beyond-at (z ∷ g) e = go (ltb total_most (nat_abs z)) refl e (beyond-at g)
  where
    go : (t : Bool) → ltb total_most (nat_abs z) ≡ t → (t || any_beyond g) ≡ true → (any_beyond g ≡ true → BeyondAt g)
        → BeyondAt (z ∷ g)
    go true q h rest = record { number = 0; more = ltb-true total_most (nat_abs z) q }
    go false q h rest = let b = rest h in record { number = suc b.number; more = b.more }

-- ---- where the farm's record is accepted

module _ (array : List Herd) (book : Book) (step : Step) (h : Herd) (room : book.count ≤ length array) where
  abbrev hs : List Herd
  hs = take book.count array

  abbrev rs : List Rule
  rs = rules (length array) h hs book.totals

  abbrev rows : List Row
  rows = rows_of h.kind

  many : length hs ≡ book.count
  many = omega (arith, length-take book.count array)

  named-at : (i : ℕ) → i < length hs → same_label (get_or hs i no_herd).label h.label ≡ true
      → NamedAt array book.count h i
  named-at i b e =
      let l : i < book.count = omega (arith, many) in
      record { inside = l; there = omega arith; same = rw (get_or-take book.count array i no_herd l) at e }

  at_named : {i : ℕ} → NamedAt array book.count h i → same_label (get_or hs i no_herd).label h.label ≡ true
  at_named {i} n = rw (get_or-take book.count array i no_herd n.inside) n.same

  full_by : min (length array) herds_most ≤ length hs → Full array book.count
  full_by b = go (leb (length array) book.count) refl
    where
      go : (t : Bool) → leb (length array) book.count ≡ t → Full array book.count
      go true e = the_array (leb-true (length array) book.count e)
      go false e = let l = leb-false (length array) book.count e in the_most (omega (arith, many))

  not_full : Full array book.count → length hs < min (length array) herds_most → ⊥
  not_full (the_array k) b = omega (arith, many)
  not_full (the_most k) b = omega (arith, many)

  -- a rule that says so applies, and has its place for its turn
  speaks : (n : ℕ) → n < length rs → applies step (rule_at rs n) ≡ true
      → AppliesToStep array book step h (rule_at rs n).refusal × Turn (rule_at rs n).refusal n
  unfolding beyond earlier_label lacks unfit form_of
  speaks zero b e =
      let f = beyond-at book.totals.grams (both_true (is_of every step) _ e).1 in
      (AppliesToStep.too_large f.number (omega (arith, f.more)), Turn.total)
  speaks (suc zero) b e =
      (AppliesToStep.bad_label (not-true (label_ok h.label) (both_true (is_of every step) _ e).1), Turn.label)
  speaks (suc (suc zero)) b e =
      let p = both_true _ _ e in
      let q = not-true (earlier_label hs h.label) p.1 in (
        AppliesToStep.not_present (names-one step p.0)
            (λ i n. none-labelled hs h.label q i (omega (arith, many, n.inside)) (at_named n)),
        Turn.not_present,
      )
  speaks (suc (suc (suc zero))) b e =
      let p = both_true _ _ e in
      let f = label-found hs h.label p.1 in
      (AppliesToStep.present (adds_one step p.0) (named-at f.place f.inside f.there), Turn.present)
  speaks (suc (suc (suc (suc zero)))) b e =
      let p = both_true _ _ e in
      (AppliesToStep.full (adds_one step p.0) (full_by (leb-true _ _ p.1)), Turn.room)
  speaks (suc (suc (suc (suc (suc zero))))) b e =
      let p = both_true _ _ e in
      let f = missing-found rows h.slots p.1 in
      (AppliesToStep.input_missing (brings-one step p.0) f.inside f.there, Turn.missing)
  speaks (suc (suc (suc (suc (suc (suc zero)))))) b e =
      let p = both_true _ _ e in
      let f = unfit-found (last_of rows) rows h.slots p.1 in
      (AppliesToStep.bad_value (brings-one step p.0) f.inside f.there, Turn.value)
  speaks (suc (suc (suc (suc (suc (suc (suc n))))))) b e = absurd (omega arith)

  -- and one that does not say so does not apply
  silent : {x : StepRefusal} {t : ℕ} → AppliesToStep array book step h x → Turn x t
      → applies step (rule_at rs t) ≡ false → ⊥
  unfolding earlier_label lacks unfit form_of
  silent (AppliesToStep.too_large n m) Turn.total e =
      let w = within-most book.totals (right-false _ _ (every-step step) e) in omega (arith, w.most n)
  silent (AppliesToStep.bad_label q) Turn.label e =
      let w = not-false (label_ok h.label) (right-false _ _ (every-step step) e) in clash cc
  silent (AppliesToStep.not_present s none) Turn.not_present e =
      let w = not-false (earlier_label hs h.label) (right-false _ _ (of-names s) e) in
      let f = label-found hs h.label w in
      none f.place (named-at f.place f.inside f.there)
  silent (AppliesToStep.present {place = i} s n) Turn.present e =
      none-labelled hs h.label (right-false _ _ (of-adds s) e) i (omega (arith, many, n.inside)) (at_named n)
  silent (AppliesToStep.full s f) Turn.room e = not_full f (leb-false _ _ (right-false _ _ (of-adds s) e))
  silent (AppliesToStep.input_missing {slot = i} s b m) Turn.missing e =
      none-missing rows h.slots (right-false _ _ (of-brings s) e) i b m
  silent (AppliesToStep.bad_value {slot = i} s b o) Turn.value e =
      none-unfit (last_of rows) rows h.slots (right-false _ _ (of-brings s) e) i b o

  module _ (fine : (n : ℕ) (refusal : Refusal) → AppliesIn array book.count n refusal → ⊥) where
    none_sooner : {m n : ℕ} {other : Fault} {x : StepRefusal} → AppliesTo array book step h m other
        → Sooner m other 0 (of_step x) → Turn x n
        → ((i : ℕ) → i < n → applies step (rule_at rs i) ≡ false) → ⊥
    none_sooner (to_farm {place = m} {refusal = r} a) farm_first u q = fine m r a
    none_sooner (to_step a) (in_that_order {s = s} p p' l) u q =
        let e = one-turn p' u in silent a p (q s (omega arith))

    by-rules : {c : Decided} → Verdict step rs c → StepGets array book step h c
    by-rules (quiet q) = done (λ m fault a. nothing a)
      where
        nothing : {m : ℕ} {fault : Fault} → AppliesTo array book step h m fault → ⊥
        nothing (to_farm {place = m} {refusal = r} a) = fine m r a
        nothing (to_step a) = let t = turned a in silent a t.has (q t.turn (omega (arith, t.last)))
    by-rules (gives {n = n} b a q) =
        let s = speaks n b a in
        gets_refusal
        (record {
          place = 0;
          fault = of_step (rule_at rs n).refusal;
          told = refl;
          is_first = record {
            applies = to_step s.0;
            none_sooner = λ m other x sooner. none_sooner x sooner s.1 q;
          };
        })

-- ---- the theorems

module _ (array : List Herd) (book : Book) (step : Step) (h : Herd) where
  first-of-farm : {r : Refusal} → FirstIn array book.count r → FirstOfStep array book step h (Record r)
  first-of-farm {r} y =
      record {
        place = y.place;
        fault = of_farm r;
        told = refl;
        is_first = record {
          applies = to_farm y.is_first.applies;
          none_sooner = λ m other a s. go a s;
        };
      }
    where
      go : {m : ℕ} {other : Fault} → AppliesTo array book step h m other → Sooner m other y.place (of_farm r) → ⊥
      go (to_step {refusal = o} a) s = elim s [ ]
      go (to_farm {place = m} {refusal = o} a) (within_farm s) = y.is_first.none_sooner m o a s

  pub step_gets : StepGets array book step h (decided_in array book step h)
  unfolding decided_in decided_of
  step_gets = go (check_farm f) refl (gets_in array book.count)
    where
      f : Farm
      f = farm_in array book.count

      go : (c : Checked) → check_farm f ≡ c → GetsIn array book.count c
          → StepGets array book step h
          (decided_after c (first (tests step (rules (length array) h (herds_of f) book.totals)) Done))
      go c e (calls.fine none) =
          let w = accepted-within array book.count e in
          subst
          (λ (l : List Herd). StepGets array book step h
          (first (tests step (rules (length array) h l book.totals)) Done))
          (sym (loaded_herds array book.count w.0 w.1))
          (by-rules array book step h w.0 none
          (verdict step (rs array book step h w.0)))
      go c e (calls.gets_refusal y) = gets_refusal (first-of-farm y)

module _ {array : List Herd} {book : Book} {step : Step} {h : Herd} where
  -- where it is something of the farm's record, it is the first of those
  of-farm-first : {n : ℕ} {r : Refusal} → FirstOf (AppliesTo array book step h) Sooner n (of_farm r)
      → FirstIn array book.count r
  of-farm-first {n} {r} x =
      record {
        place = n;
        is_first = record {
          applies = in_farm x.applies;
          none_sooner = λ m other a s. x.none_sooner m (of_farm other) (to_farm a) (within_farm s);
        };
      }
    where
      in_farm : {n : ℕ} {r : Refusal} → AppliesTo array book step h n (of_farm r) → AppliesIn array book.count n r
      in_farm (to_farm a) = a

  in_step : {n : ℕ} {r : StepRefusal} → AppliesTo array book step h n (of_step r) → AppliesToStep array book step h r
  in_step (to_step a) = a

  -- there is one first
  one-fault : {m n : ℕ} (f g : Fault) → FirstOf (AppliesTo array book step h) Sooner m f
      → FirstOf (AppliesTo array book step h) Sooner n g → told_by f ≡ told_by g
  one-fault (of_farm r) (of_farm q) a b = ap Record (one-first_in (of-farm-first a) (of-farm-first b))
  one-fault {m} {n} (of_farm r) (of_step q) a b = absurd (b.none_sooner m (of_farm r) a.applies farm_first)
  one-fault {m} {n} (of_step r) (of_farm q) a b = absurd (a.none_sooner n (of_farm q) b.applies farm_first)
  one-fault {m} {n} (of_step r) (of_step q) a b =
      let s = turned (in_step a.applies) in
      let t = turned (in_step b.applies) in
      compare s.turn t.turn
      (λ l. absurd (b.none_sooner m (of_step r) a.applies (in_that_order s.has t.has l)))
      (λ l. absurd (a.none_sooner n (of_step q) b.applies (in_that_order t.has s.has l)))
      (λ e. sym (of-turn s.has) ∙ ap refusal_at e ∙ of-turn t.has)

  pub one-first-step : {x y : StepRefusal} → FirstOfStep array book step h x → FirstOfStep array book step h y → x ≡ y
  one-first-step a b = sym a.told ∙ one-fault a.fault b.fault a.is_first b.is_first ∙ b.told

module _ (array : List Herd) (book : Book) (step : Step) (h : Herd) where
  pub step-refused : (x : StepRefusal)
      → (decided_in array book step h ≡ Err x) ↔ FirstOfStep array book step h x
  step-refused x = (told (step_gets array book step h), found (step_gets array book step h))
    where
      told : {c : Decided} → StepGets array book step h c → c ≡ Err x → FirstOfStep array book step h x
      told (done none) e = clash cc
      told (gets_refusal {refusal = y} first) e = let p : y ≡ x = cc in rw p at first

      found : {c : Decided} → StepGets array book step h c → FirstOfStep array book step h x → c ≡ Err x
      found (done none) y = absurd (none y.place y.fault y.is_first.applies)
      found (gets_refusal first) y = ap Err (one-first-step first y)

  pub step-done : (decided_in array book step h ≡ Done)
      ↔ ((place : ℕ) (fault : Fault) → AppliesTo array book step h place fault → ⊥)
  step-done = (told (step_gets array book step h), found (step_gets array book step h))
    where
      told : {c : Decided} → StepGets array book step h c → c ≡ Done → (place : ℕ) (fault : Fault)
          → AppliesTo array book step h place fault → ⊥
      told (done none) e = none
      told (gets_refusal _) e = clash cc

      found : {c : Decided} → StepGets array book step h c
          → ((place : ℕ) (fault : Fault) → AppliesTo array book step h place fault → ⊥) → c ≡ Done
      found (done _) none = refl
      found (gets_refusal y) none = absurd (none y.place y.fault y.is_first.applies)

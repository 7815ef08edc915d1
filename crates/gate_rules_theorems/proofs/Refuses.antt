-- The first refusal: a log is refused with a number and a record exactly where that is the first refusal that
-- applies, in 02's order; and a log is accepted exactly where none applies. Assumes nothing.
use Rattle.std.specs.Prelude.{Ok, Err}
use Prim.Native.Nat.{ℕ, suc, ◌+◌, ◌<◌, ◌≤◌}
use mathlib.Core.Path.{◌≡◌, refl, sym, ap, subst, ◌∙◌}
use mathlib.Core.Logic.{◌↔◌, ◌⊎◌, inl, inr}
use mathlib.Core.List.{List, ◌∷◌}
use native.Mathlib.Omega.{arith}
use lib.ListN.{length, length-append}
use Rattle.base.specs.Pick.{if◌is◌then◌else◌}
use Rattle.base.proofs.Clash.{clash}
use Rattle.base.proofs.SameRefused.{same-record, same-refusal}
use Rattle.base.specs.Refused.{refuse}
use Rattle.grammar.specs.Reading.{Reading, ◌then◌, end, broken, reading_of}
use Rattle.grammar.proofs.Files.{read-file, breaks-read, read-breaks}
use Rattle.rules_theorems.specs.Lists.{Last}
use Rattle.first_refusal.specs.Records.{Record, RecordAt}
use Rattle.first_refusal.proofs.Readings.{thens, whole-thens, broken-thens, record_read_lem, read_record}
use Rattle.first_refusal.proofs.Readings.{Stops, at-end, at_break}
use Rattle.first_refusal.proofs.Readings.{split-read, one-thens, shorter, as_long, split_at, none-broken, same-records}
use Rattle.first_refusal.proofs.Order.{Order, sooner, later, same, by_turn, One, one-of-first}
use Rattle.calendar.specs.declared.Date.{Date}
use Rattle.calendar.specs.Calendar.{IsEve}
use Rattle.dates.specs.Texts.{IsDate}
use Rattle.outdoors.specs.declared.Outdoors.{Outdoors}
use Rattle.gate_days.specs.declared.LogRefusal.{LogRefusal}
use Rattle.gate_days.specs.declared.LogRefusal.TheVariants.{LogTooLong, RecordBroken, NotThreeFields, BadHours}
use Rattle.gate_days.specs.declared.LogRefusal.TheVariants.{WrongDate}
use Rattle.gate_days.specs.Refusals.{number}
use Rattle.gate.specs.Answers.{says}
use Rattle.gate.specs.Logs.{read_log, LogAnswer}
use Rattle.gate_rules_theorems.specs.Rules.{date_text, log_most, KeepsLog}
use Rattle.gate_rules_theorems.specs.Refusals.{
  Applies,
  AppliesAt,
  Sooner,
  too_long_first,
  from_the_front,
  in_that_order,
}
use Rattle.gate_rules_theorems.specs.Refusals.{then_the_end, First, LogGets}
use Rattle.gate_rules_theorems.proofs.Steps.{NoneBelow, OnEve}
use Rattle.gate_rules_theorems.proofs.Answers.{
  Clean,
  Ran,
  accepts,
  breaks,
  wrong,
  ends,
  Answered,
  too_long,
  read,
}
use Rattle.gate_rules_theorems.proofs.Answers.{answered}
use Rattle.gate_rules_theorems.proofs.Accepts.{accepts-exactly}

-- ---- the order, by numbers

-- the refusal of a number
abbrev refusal_of : ℕ → LogRefusal
refusal_of n =
    if n is 1 then LogTooLong else
    if n is 2 then RecordBroken else
    if n is 3 then NotThreeFields else
    if n is 7 then BadHours else
    WrongDate

of_number : (f : LogRefusal) → refusal_of (number f) ≡ f
of_number LogTooLong = refl
of_number RecordBroken = refl
of_number NotThreeFields = refl
of_number BadHours = refl
of_number WrongDate = refl

one-refusal : (f g : LogRefusal) → number f ≡ number g → f ≡ g
one-refusal f g e = sym (of_number f) ∙ ap refusal_of e ∙ of_number g

-- of a record it is one of 3, 7 and 14
of-a_record : {before : List Record} {cs : Record} {f : LogRefusal} → Applies before cs f → 3 ≤ number f
of-a_record (Applies.not_three_fields _) = omega arith
of-a_record (Applies.bad_hours _) = omega arith
of-a_record (Applies.wrong_date _) = omega arith

data Rank : ℕ → LogRefusal → Type 0 where
  before-all : Rank 0 LogTooLong
  of_record : {n : ℕ} {f : LogRefusal} → 1 ≤ n → 2 ≤ number f → Rank n f
  after-all : Rank 0 WrongDate

rank : {s : List ℕ} {n : ℕ} {f : LogRefusal} → AppliesAt s n f → Rank n f
rank (AppliesAt.too_long _) = before-all
rank (AppliesAt.broken {rs = rs} _) = of_record {n = length rs + 1} {f = RecordBroken} (omega arith) (omega arith)
rank (AppliesAt.wrong {before = before} {refusal = f} _ a) =
    let w = of-a_record a in of_record {n = length before + 1} {f = f} (omega arith) (omega arith)
rank (AppliesAt.ends_early _ _) = after-all

rank-some : {n : ℕ} {f : LogRefusal} → Rank n f → 1 ≤ number f
rank-some before-all = omega arith
rank-some (of_record _ h) = omega arith
rank-some after-all = omega arith

none_before : {m n : ℕ} {f g : LogRefusal} → Sooner m f n g → number g ≡ 1 → n ≡ 0 → 1 ≤ number f → ⊥
none_before (too_long_first h) e z k = omega arith
none_before (from_the_front _ h) e z k = omega arith
none_before (in_that_order h _) e z k = omega arith
none_before (then_the_end _) e z k = omega arith

among-records : {m n : ℕ} {f g : LogRefusal} → Sooner m f n g → 2 ≤ number f → 1 ≤ n
    → (m < n) ⊎ ((m ≡ n) × (number f < number g))
among-records (too_long_first _) h k = absurd (omega arith)
among-records (from_the_front _ d) h k = inl d
among-records (in_that_order _ d) h k = inr (refl, d)
among-records (then_the_end _) h k = absurd (omega arith)

-- nothing comes behind the log's end
not_the_end : {m n : ℕ} {f g : LogRefusal} → Sooner m f n g → number f ≡ 14 → m ≡ 0 → ⊥
not_the_end (too_long_first _) h k = omega arith
not_the_end (from_the_front d _) h k = omega arith
not_the_end (in_that_order d _) h k = omega arith
not_the_end (then_the_end d) h k = omega arith

-- ---- what applies to a log, by how it reads

module _ (s : List ℕ) where
  -- records that are read through, or up to a break, and for which none of 3, 7 and 14 applies
  module _ (rs : List Record) {x : Reading} (stops : Stops x) (w : reading_of s ≡ thens rs x) (clean : Clean rs) where
    none-wrong : {before : List Record} {cs : Record} {f : LogRefusal} → RecordAt s before cs → Applies before cs f → ⊥
    none-wrong {before} {cs} {f} at a =
        let p = split_at s rs stops w at in
        clean before cs p.after p.is f a

  not-long : {R : Type 0} → length s ≤ log_most → log_most < length s → R
  not-long a b = absurd (omega arith)

  -- a log that is accepted
  nothing-applies : (rs : List Record) → length s ≤ log_most → reading_of s ≡ thens rs end → Clean rs → OnEve rs
      → (m : ℕ) (f : LogRefusal) → AppliesAt s m f → ⊥
  nothing-applies rs short w clean eve m f (AppliesAt.too_long h) = not-long short h
  nothing-applies rs short w clean eve m f (AppliesAt.broken b) = none-broken s rs w b
  nothing-applies rs short w clean eve m f (AppliesAt.wrong at a) = none-wrong rs at-end w clean at a
  nothing-applies rs short w clean eve m f (AppliesAt.ends_early file none) =
      none eve.last eve.date
      (subst (λ (l : List Record). Last l eve.last) (same-records s rs w file) eve.is_last) eve.says eve.eve

  -- one that is too long
  first-long : log_most < length s → First s 0 LogTooLong
  first-long h =
      record { applies = AppliesAt.too_long h; none_sooner = λ m f a d. none_before d refl refl (rank-some (rank a)) }

  -- one that breaks
  module _ (rs : List Record) (short : length s ≤ log_most) (w : reading_of s ≡ thens rs broken)
      (clean : Clean rs) where
    none-sooner_break : (m : ℕ) (f : LogRefusal) → AppliesAt s m f → Sooner m f (length rs + 1) RecordBroken → ⊥
    none-sooner_break m f (AppliesAt.too_long h) d = not-long short h
    none-sooner_break m f (AppliesAt.broken {rs = rs'} b) d =
        let e = one-thens rs rs' at_break (sym w ∙ breaks-read rs' s b ∙ broken-thens rs') in
        go (ap length e) (among-records d (omega arith) (omega arith))
      where
        go : length rs ≡ length rs' → (length rs' + 1 < length rs + 1) ⊎ ((length rs' + 1 ≡ length rs + 1) × (2 < 2))
            → ⊥
        go e (inl h) = omega arith
        go e (inr (_, h)) = omega arith
    none-sooner_break m f (AppliesAt.wrong at a) d = none-wrong rs at_break w clean at a
    none-sooner_break m f (AppliesAt.ends_early _ _) d = not_the_end d refl refl

    first_break : First s (length rs + 1) RecordBroken
    first_break =
        record {
          applies = AppliesAt.broken (read-breaks rs s (w ∙ sym (broken-thens rs)));
          none_sooner = none-sooner_break;
        }

  -- one with a wrong record
  module _ (before : List Record) (cs : Record) (rest : Reading) {refusal : LogRefusal} (short : length s ≤ log_most)
      (w : reading_of s ≡ thens before (cs then rest)) (clean : Clean before)
      (applies : Applies before cs refusal) (below : NoneBelow before cs (number refusal)) where
    wrong-sooner : {before' : List Record} {cs' : Record} {f : LogRefusal} → RecordAt s before' cs'
        → Applies before' cs' f → Sooner (length before' + 1) f (length before + 1) refusal → ⊥
    wrong-sooner {before'} {cs'} {f} at a d =
        let o = of-a_record a in
        go (among-records d (omega arith) (omega arith))
      where
        same : thens before (cs then rest) ≡ thens before' (cs' then (record_read_lem at).rest)
        same = sym w ∙ (record_read_lem at).is

        go : (length before' + 1 < length before + 1)
            ⊎ ((length before' + 1 ≡ length before + 1) × (number f < number refusal)) → ⊥
        go (inl h) =
            let p = shorter rest (record_read_lem at).rest before before' cs cs' same (omega arith) in
            clean before' cs' p.after p.is f a
        go (inr (e, h)) =
            let p = as_long rest (record_read_lem at).rest before before' cs cs' same (omega arith) in
            below f h (rw (p.0, p.1) a)

    none-sooner-wrong : (m : ℕ) (f : LogRefusal) → AppliesAt s m f → Sooner m f (length before + 1) refusal → ⊥
    none-sooner-wrong m f (AppliesAt.too_long h) d = not-long short h
    none-sooner-wrong m f (AppliesAt.broken {rs = rs'} b) d =
        let p = split-read rest rs' before cs at_break (sym (breaks-read rs' s b ∙ broken-thens rs') ∙ w) in
        go (length p.after) (ap length p.is ∙ length-append before (cs ∷ p.after))
        (among-records d (omega arith) (omega arith))
      where
        go : (k : ℕ) → length rs' ≡ length before + suc k
            → (length rs' + 1 < length before + 1) ⊎ ((length rs' + 1 ≡ length before + 1) × (2 < number refusal)) → ⊥
        go k e (inl h) = omega arith
        go k e (inr (h, _)) = omega arith
    none-sooner-wrong m f (AppliesAt.wrong at a) d = wrong-sooner at a d
    none-sooner-wrong m f (AppliesAt.ends_early _ _) d = not_the_end d refl refl

    first-wrong : First s (length before + 1) refusal
    first-wrong =
        record { applies = AppliesAt.wrong (read_record s before cs rest w) applies; none_sooner = none-sooner-wrong }

  -- one that ends before 31 December
  module _ (rs : List Record) (short : length s ≤ log_most) (w : reading_of s ≡ thens rs end) (clean : Clean rs)
      (none : (r : Record) (d : Date) → Last rs r → IsDate (date_text r) d → IsEve d → ⊥) where
    none-sooner-end : (m : ℕ) (f : LogRefusal) → AppliesAt s m f → Sooner m f 0 WrongDate → ⊥
    none-sooner-end m f (AppliesAt.too_long h) d = not-long short h
    none-sooner-end m f (AppliesAt.broken b) d = none-broken s rs w b
    none-sooner-end m f (AppliesAt.wrong at a) d = none-wrong rs at-end w clean at a
    none-sooner-end m f (AppliesAt.ends_early _ _) d = not_the_end d refl refl

    first-end : First s 0 WrongDate
    first-end =
        record {
          applies = AppliesAt.ends_early (read-file rs s (w ∙ sym (whole-thens rs))) none;
          none_sooner = none-sooner-end;
        }

-- ---- what is answered of a log

data Outcome (s : List ℕ) : LogAnswer → Type 0 where
  takes : {o : Outdoors} → ((m : ℕ) (other : LogRefusal) → AppliesAt s m other → ⊥) → Outcome s (Ok o)
  refuses_it : {n : ℕ} {refusal : LogRefusal} → First s n refusal → Outcome s (refuse refusal n)

outcome : {s : List ℕ} {x : LogAnswer} → Answered s x → Outcome s x
outcome {s} (too_long h) = refuses_it (first-long s h)
outcome {s} (read short r) = go r
  where
    go : {x : LogAnswer} → Ran (reading_of s) x → Outcome s x
    go (accepts rs w clean _ eve) = takes (nothing-applies s rs short w clean eve)
    go (breaks rs w clean) = refuses_it (first_break s rs short w clean)
    go (wrong before cs rest w clean a below) = refuses_it (first-wrong s before cs rest short w clean a below)
    go (ends rs w clean none) = refuses_it (first-end s rs short w clean none)

-- ---- there is one first refusal

by-records : (m n : ℕ) (f g : LogRefusal) → 1 ≤ m → 1 ≤ n → Order Sooner m f n g
by-records m n f g h k =
    by_turn Sooner m n f g (number f) (number g) (λ l. from_the_front {refusal = f} {other = g} h l)
    (λ l. from_the_front {refusal = g} {other = f} k l) (λ l. in_that_order {refusal = f} {other = g} h l)
    (λ l. in_that_order {refusal = g} {other = f} h l) (one-refusal f g)

order : {m n : ℕ} {f g : LogRefusal} → Rank m f → Rank n g → Order Sooner m f n g
order before-all before-all = same refl refl
order before-all (of_record {f = g} _ h) = sooner (too_long_first {refusal = g} (omega arith))
order before-all after-all = sooner (too_long_first {refusal = WrongDate} (omega arith))
order (of_record {f = f} _ h) before-all = later (too_long_first {refusal = f} (omega arith))
order {m} {n} {f} {g} (of_record h _) (of_record k _) = by-records m n f g h k
order (of_record {f = f} h _) after-all = sooner (then_the_end {refusal = f} h)
order after-all before-all = later (too_long_first {refusal = WrongDate} (omega arith))
order after-all (of_record {f = g} h _) = later (then_the_end {refusal = g} h)
order after-all after-all = same refl refl

pub one-first : {s : List ℕ} {m n : ℕ} {f g : LogRefusal} → First s m f → First s n g → One m f n g
one-first x y = one-of-first (λ a b. order (rank a) (rank b)) x y

-- ---- the theorems

module _ (s : List ℕ) (n : ℕ) (refusal : LogRefusal) where
  refused-first : {x : LogAnswer} → Outcome s x → x ≡ refuse refusal n → First s n refusal
  refused-first (takes _) e = clash cc
  refused-first (refuses_it x) e = rw (same-record e, same-refusal e) at x

  first-refused : {x : LogAnswer} → Outcome s x → First s n refusal → x ≡ refuse refusal n
  first-refused (takes none) x = absurd (none n refusal x.applies)
  first-refused (refuses_it {n = m} {refusal = f} y) x =
      let o = one-first y x in
      ap (refuse f) o.at_record ∙ ap (λ (g : LogRefusal). refuse g n) o.refusal

  -- a log is refused with this fault and record exactly where that is the first refusal
  pub first-refusal : (read_log s ≡ refuse refusal n) ↔ First s n refusal
  first-refusal = (λ e. refused-first (outcome (answered s)) e, λ x. first-refused (outcome (answered s)) x)

-- in 02's numbers
pub log-says : (s : List ℕ) → LogGets s (says (read_log s))
log-says s = go (read_log s) refl
  where
    go : (x : LogAnswer) → read_log s ≡ x → LogGets s (says x)
    go (Ok o) e = LogGets.comes_to ((accepts-exactly s o).0 e)
    go (Err refused) e = LogGets.refused ((first-refusal s refused.1 refused.0).0 e)

-- a log that keeps the rules, with what it comes to
pub record Taken (s : List ℕ) : Type 0 where
  pub outdoors : Outdoors
  pub keeps : KeepsLog s outdoors

-- a log keeps the rules exactly where no refusal applies to it
pub taken-exactly : (s : List ℕ) → Taken s ↔ ((m : ℕ) (other : LogRefusal) → AppliesAt s m other → ⊥)
taken-exactly s = (
  λ t. clear (outcome (answered s)) ((accepts-exactly s t.outdoors).1 t.keeps),
  λ none. keep none (read_log s) refl (outcome (answered s)),
)
  where
    clear : {x : LogAnswer} {o : Outdoors} → Outcome s x → x ≡ Ok o → (m : ℕ) (other : LogRefusal)
        → AppliesAt s m other → ⊥
    clear (takes none) e = none
    clear (refuses_it _) e = clash cc

    keep : ((m : ℕ) (other : LogRefusal) → AppliesAt s m other → ⊥) → (x : LogAnswer) → read_log s ≡ x → Outcome s x
        → Taken s
    keep none x e (takes {o = o} _) = record { outdoors = o; keeps = (accepts-exactly s o).0 e }
    keep none x e (refuses_it {n = n} {refusal = f} y) = absurd (none n f y.applies)

-- The first refusal: a file is refused with a number and a record exactly where that is the first refusal that applies,
-- in 01's order; and a file is accepted exactly where none applies. Assumes nothing.
use Prim.Native.Nat.{ℕ, suc, ◌+◌, ◌<◌, ◌≤◌}
use mathlib.Core.Path.{◌≡◌, refl, sym, ap, ◌∙◌}
use mathlib.Core.Logic.{◌↔◌, ◌⊎◌, inl, inr}
use mathlib.Core.List.{List, ◌∷◌, ◌++◌}
use native.Mathlib.Omega.{arith}
use lib.ListN.{length, length-append}
use Rattle.base.proofs.Clash.{clash}
use Rattle.base.proofs.SameRefused.{same-record, same-refusal}
use Rattle.base.specs.Each.{Each}
use Rattle.grammar.specs.Reading.{Reading, ◌then◌, end, broken, reading_of}
use Rattle.grammar.proofs.Files.{file-read, read-file, breaks-read, read-breaks}
use Rattle.farm.specs.declared.Farm.{Farm}
use Rattle.farm.specs.declared.Refusal.{Refusal}
use Rattle.farm.specs.declared.Refusal.TheVariants.{FileTooLong, RecordBroken, InputMissing}
use Rattle.farm.specs.Refusals.{number}
use Rattle.farm.specs.Limits.{herds_most}
use Rattle.limits.specs.declared.Limits.{Limits}
use Rattle.limits.specs.declared.Source.{Source}
use Rattle.limits.specs.Limits.{limits_of}
use Rattle.reader.specs.declared.FileAnswer.{FileAnswer}
use Rattle.reader.specs.Files.{refused, accepted, read_of}
use Rattle.first_refusal.specs.Records.{Record, RecordAt}
use Rattle.first_refusal.proofs.Order.{compare, Order, sooner, later, same, by_turn, One, one-of-first}
use Rattle.rules_theorems.specs.Rules.{allowed, KeepsRules}
use Rattle.rules_theorems.specs.Refusals.{
  Applies,
  Lacks,
  AppliesAt,
  Sooner,
  too_long_first,
  from_the_front,
  in_that_order,
  then_missing,
  first_herd,
  First,
}
use Rattle.rules_theorems.proofs.Faults.{one-refusal, applies-within, NoneBelow}
use Rattle.rules_theorems.proofs.Answers.{
  Clean,
  Ran,
  accepts,
  breaks,
  wrong,
  missing,
  Answered,
  too_long,
  read,
  answered,
}
use Rattle.first_refusal.proofs.Readings.{
  thens,
  whole-thens,
  broken-thens,
  record_read_lem,
  read_record,
  Stops,
  at-end,
  at_break,
}
use Rattle.first_refusal.proofs.Readings.{split-read, one-thens, end-not-broken, shorter, as_long, split-list}
use Rattle.first_refusal.proofs.Readings.{split_at, none-broken, same-records}
use Rattle.rules_theorems.proofs.Allowed.{as-allowed, allowed-fit}
use Rattle.rules_theorems.proofs.Lists.{at_split}
use Rattle.rules_theorems.proofs.Accepts.{accepts-within}

-- ---- the order, by numbers

data Rank : ℕ → Refusal → Type 0 where
  before-all : Rank 0 FileTooLong
  of_record : {n : ℕ} {f : Refusal} → 2 ≤ number f → number f ≤ 11 → Rank n f
  after-all : {n : ℕ} → Rank n InputMissing

rank : {limits : Limits} {s : List ℕ} {n : ℕ} {f : Refusal} → AppliesAt limits s n f → Rank n f
rank (AppliesAt.too_long _) = before-all
rank (AppliesAt.broken _) = of_record {f = RecordBroken} (omega arith) (omega arith)
rank (AppliesAt.wrong {refusal = f} _ a) = let w = applies-within a in
    of_record {f = f} (omega (arith, w.low)) w.high
rank (AppliesAt.missing _ _ _ _ _) = after-all

rank-some : {n : ℕ} {f : Refusal} → Rank n f → 1 ≤ number f
rank-some before-all = omega arith
rank-some (of_record h _) = omega arith
rank-some after-all = omega arith

none_before : {m n : ℕ} {f g : Refusal} → Sooner m f n g → number g ≡ 1 → n ≡ 0 → 1 ≤ number f → ⊥
none_before (too_long_first h) e z k = omega arith
none_before (from_the_front _ _ h) e z k = omega arith
none_before (in_that_order _ h) e z k = omega arith
none_before (then_missing _) e z k = omega arith
none_before (first_herd _) e z k = omega arith

among-records : {m n : ℕ} {f g : Refusal} → Sooner m f n g → 2 ≤ number f → number g ≤ 11
    → (m < n) ⊎ ((m ≡ n) × (number f < number g))
among-records (too_long_first _) h k = absurd (omega arith)
among-records (from_the_front _ _ d) h k = inl d
among-records (in_that_order _ d) h k = inr (refl, d)
among-records (then_missing _) h k = absurd (omega arith)
among-records (first_herd _) h k = absurd (omega arith)

not-after-all : {m n : ℕ} {f g : Refusal} → Sooner m f n g → number f ≡ 12 → number g ≤ 11 → ⊥
not-after-all (too_long_first _) h k = omega arith
not-after-all (from_the_front d _ _) h k = omega arith
not-after-all (in_that_order _ d) h k = omega arith
not-after-all (then_missing _) h k = omega arith
not-after-all (first_herd _) h k = omega arith

herds-before : {m n : ℕ} {f g : Refusal} → Sooner m f n g → number f ≡ 12 → m < n
herds-before (too_long_first _) h = absurd (omega arith)
herds-before (from_the_front d _ _) h = absurd (omega arith)
herds-before (in_that_order d e) h = absurd (omega arith)
herds-before (then_missing d) h = absurd (omega arith)
herds-before (first_herd d) h = d

-- ---- what applies to a file, by how it reads

not-long : {R : Type 0} {m n : ℕ} → m ≤ n → n < m → R
not-long a b = absurd (omega arith)

module _ {limits : Limits} (s : List ℕ) where
  -- records that are read through, or up to a break, and for which none of 3 to 11 applies
  module _ (rs : List Record) {x : Reading} (stops : Stops x) (w : reading_of s ≡ thens rs x)
      (clean : Clean limits rs) where
    none-wrong : {before : List Record} {cs : Record} {f : Refusal} → RecordAt s before cs → Applies limits before cs f
        → ⊥
    none-wrong {before} {cs} {f} at a =
        let p = split_at s rs stops w at in
        clean before cs p.after p.is f a

  -- a file that is accepted
  nothing-applies : (rs : List Record) → length s ≤ limits.bytes → reading_of s ≡ thens rs end → Clean limits rs
      → Each (λ r. Lacks rs r → ⊥) rs → (m : ℕ) (f : Refusal) → AppliesAt limits s m f → ⊥
  nothing-applies rs short w clean whole m f (AppliesAt.too_long h) = not-long short h
  nothing-applies rs short w clean whole m f (AppliesAt.broken b) = none-broken s rs w b
  nothing-applies rs short w clean whole m f (AppliesAt.wrong at a) = none-wrong rs at-end w clean at a
  nothing-applies rs short w clean whole m f (AppliesAt.missing before cs after file l) =
      let e = same-records s rs w file in
      at_split {a = before} (record { after = after; is = e }) whole (rw (sym e) at l)

  -- one that is too long
  first-long : limits.bytes < length s → First limits s 0 FileTooLong
  first-long h = record
      { applies = AppliesAt.too_long h; none_sooner = λ m f a d. none_before d refl refl (rank-some (rank a)) }

  -- one that breaks
  module _ (rs : List Record) (short : length s ≤ limits.bytes) (w : reading_of s ≡ thens rs broken)
      (clean : Clean limits rs) where
    none-sooner_break : (m : ℕ) (f : Refusal) → AppliesAt limits s m f → Sooner m f (length rs + 1) RecordBroken → ⊥
    none-sooner_break m f (AppliesAt.too_long h) d = not-long short h
    none-sooner_break m f (AppliesAt.broken {rs = rs'} b) d =
        let e = one-thens rs rs' at_break (sym w ∙ breaks-read rs' s b ∙ broken-thens rs') in
        go (ap length e) (among-records d (omega arith) (omega arith))
      where
        go : length rs ≡ length rs' → (length rs' + 1 < length rs + 1) ⊎ ((length rs' + 1 ≡ length rs + 1) × (2 < 2))
            → ⊥
        go e (inl h) = omega arith
        go e (inr (_, h)) = omega arith
    none-sooner_break m f (AppliesAt.wrong at a) d = none-wrong rs at_break w clean at a
    none-sooner_break m f (AppliesAt.missing before cs after file l) d =
        end-not-broken (before ++ (cs ∷ after)) rs
        (sym (whole-thens (before ++ (cs ∷ after))) ∙ sym (file-read file) ∙ w)

    first_break : First limits s (length rs + 1) RecordBroken
    first_break = record
        { applies = AppliesAt.broken (read-breaks rs s (w ∙ sym (broken-thens rs))); none_sooner = none-sooner_break }

  -- one with a record that is refused
  module _ (before : List Record) (cs : Record) (rest : Reading) {refusal : Refusal} (short : length s ≤ limits.bytes)
      (w : reading_of s ≡ thens before (cs then rest)) (clean : Clean limits before)
      (applies : Applies limits before cs refusal) (below : NoneBelow limits before cs (number refusal)) where
    wrong-sooner : {before' : List Record} {cs' : Record} {f : Refusal} → RecordAt s before' cs'
        → Applies limits before' cs' f
        → Sooner (length before' + 1) f (length before + 1) refusal → ⊥
    wrong-sooner {before'} {cs'} {f} at a d =
        go (among-records d (omega (arith, (applies-within a).low)) (applies-within applies).high)
      where
        same : thens before (cs then rest) ≡ thens before' (cs' then (record_read_lem at).rest)
        same = sym w ∙ (record_read_lem at).is

        go : (length before' + 1 < length before + 1)
            ⊎ ((length before' + 1 ≡ length before + 1) × (number f < number refusal)) → ⊥
        go (inl h) = let p = shorter rest (record_read_lem at).rest before before' cs cs' same (omega arith) in
            clean before' cs' p.after p.is f a
        go (inr (e, h)) = let p = as_long rest (record_read_lem at).rest before before' cs cs' same (omega arith) in
            below f h (rw (p.0, p.1) a)

    none-sooner-wrong : (m : ℕ) (f : Refusal) → AppliesAt limits s m f → Sooner m f (length before + 1) refusal → ⊥
    none-sooner-wrong m f (AppliesAt.too_long h) d = not-long short h
    none-sooner-wrong m f (AppliesAt.broken {rs = rs'} b) d =
        let p = split-read rest rs' before cs at_break (sym (breaks-read rs' s b ∙ broken-thens rs') ∙ w) in
        go (length p.after) (ap length p.is ∙ length-append before (cs ∷ p.after))
        (among-records d (omega arith) (applies-within applies).high)
      where
        go : (k : ℕ) → length rs' ≡ length before + suc k
            → (length rs' + 1 < length before + 1) ⊎ ((length rs' + 1 ≡ length before + 1) × (2 < number refusal)) → ⊥
        go k e (inl h) = omega arith
        go k e (inr (h, _)) = omega arith
    none-sooner-wrong m f (AppliesAt.wrong at a) d = wrong-sooner at a d
    none-sooner-wrong m f (AppliesAt.missing _ _ _ _ _) d = not-after-all d refl (applies-within applies).high

    first-wrong : First limits s (length before + 1) refusal
    first-wrong = record
        { applies = AppliesAt.wrong (read_record s before cs rest w) applies; none_sooner = none-sooner-wrong }

  -- one with a herd that lacks an input
  module _ (before : List Record) (cs : Record) (after : List Record) (short : length s ≤ limits.bytes)
      (w : reading_of s ≡ thens (before ++ (cs ∷ after)) end) (clean : Clean limits (before ++ (cs ∷ after)))
      (lacking : Lacks (before ++ (cs ∷ after)) cs)
      (whole : Each (λ r. Lacks (before ++ (cs ∷ after)) r → ⊥) before) where
    none-sooner-missing : (m : ℕ) (f : Refusal) → AppliesAt limits s m f → Sooner m f (length before + 1) InputMissing
        → ⊥
    none-sooner-missing m f (AppliesAt.too_long h) d = not-long short h
    none-sooner-missing m f (AppliesAt.broken b) d = none-broken s (before ++ (cs ∷ after)) w b
    none-sooner-missing m f (AppliesAt.wrong at a) d = none-wrong (before ++ (cs ∷ after)) at-end w clean at a
    none-sooner-missing m f (AppliesAt.missing before' cs' after' file l) d =
        let e = same-records s (before ++ (cs ∷ after)) w file in
        let h = herds-before d refl in
        at_split (split-list before before' cs cs' after after' e (omega arith)) whole (rw (sym e) at l)

    first-missing : First limits s (length before + 1) InputMissing
    first-missing =
        record {
          applies = AppliesAt.missing before cs after
              (read-file (before ++ (cs ∷ after)) s (w ∙ sym (whole-thens (before ++ (cs ∷ after))))) lacking;
          none_sooner = none-sooner-missing;
        }

-- ---- what is answered of a file

pub data Outcome (limits : Limits) (s : List ℕ) : FileAnswer → Type 0 where
  takes : {f : Farm} → ((m : ℕ) (other : Refusal) → AppliesAt limits s m other → ⊥) → Outcome limits s (accepted f)
  gives : {n : ℕ} {refusal : Refusal} → First limits s n refusal → Outcome limits s (refused n refusal)

pub outcome : {limits : Limits} {s : List ℕ} {x : FileAnswer} → Answered limits s x → Outcome limits s x
outcome {s = s} (too_long h) = gives (first-long s h)
outcome {limits} {s} (read short r) = go r
  where
    go : {x : FileAnswer} → Ran limits (reading_of s) x → Outcome limits s x
    go (accepts rs w clean _ whole) = takes (nothing-applies s rs short w clean whole)
    go (breaks rs w clean) = gives (first_break s rs short w clean)
    go (wrong before cs rest w clean a below) = gives (first-wrong s before cs rest short w clean a below)
    go (missing before cs after w clean l whole) = gives (first-missing s before cs after short w clean l whole)

-- ---- there is one first refusal

by-records : (m n : ℕ) (f g : Refusal) → number f ≤ 11 → number g ≤ 11 → Order Sooner m f n g
by-records m n f g h k =
    by_turn Sooner m n f g (number f) (number g)
    (λ l. from_the_front {refusal = f} {other = g} (omega arith) (omega arith) l)
    (λ l. from_the_front {refusal = g} {other = f} (omega arith) (omega arith) l)
    (λ l. in_that_order {refusal = f} {other = g} (omega arith) l)
    (λ l. in_that_order {refusal = g} {other = f} (omega arith) l) (one-refusal f g)

by-herds : (m n : ℕ) → Order Sooner m InputMissing n InputMissing
by-herds m n = compare m n (λ l. sooner (first_herd l)) (λ l. later (first_herd l)) (λ e. same e refl)

order : {m n : ℕ} {f g : Refusal} → Rank m f → Rank n g → Order Sooner m f n g
order before-all before-all = same refl refl
order before-all (of_record {f = g} h _) = sooner (too_long_first {refusal = g} (omega arith))
order before-all after-all = sooner (too_long_first {refusal = InputMissing} (omega arith))
order (of_record {f = f} h _) before-all = later (too_long_first {refusal = f} (omega arith))
order {m} {n} {f} {g} (of_record _ h) (of_record _ k) = by-records m n f g h k
order (of_record {f = f} _ h) after-all = sooner (then_missing {refusal = f} (omega arith))
order after-all before-all = later (too_long_first {refusal = InputMissing} (omega arith))
order after-all (of_record {f = g} _ h) = later (then_missing {refusal = g} (omega arith))
order {m} {n} after-all after-all = by-herds m n

pub one-first : {limits : Limits} {s : List ℕ} {m n : ℕ} {f g : Refusal} → First limits s m f → First limits s n g
    → One m f n g
one-first x y = one-of-first (λ a b. order (rank a) (rank b)) x y

-- ---- the theorems

module _ {limits : Limits} (s : List ℕ) (n : ℕ) (refusal : Refusal) where
  refused-first : {x : FileAnswer} → Outcome limits s x → x ≡ refused n refusal → First limits s n refusal
  refused-first (takes _) e = let c = ap (λ (a : FileAnswer). a.checked) e in clash cc
  refused-first (gives {n = m} {refusal = f} x) e =
      let c = ap (λ (a : FileAnswer). a.checked) e in
      rw (same-record c, same-refusal c) at x

  first-refused : {x : FileAnswer} → Outcome limits s x → First limits s n refusal → x ≡ refused n refusal
  first-refused (takes none) x = absurd (none n refusal x.applies)
  first-refused (gives {n = m} {refusal = f} y) x =
      let o = one-first y x in
      ap (λ (k : ℕ). refused k f) o.at_record ∙ ap (refused n) o.refusal

-- a file that keeps the rules, with the farm that it says
pub record Taken (limits : Limits) (s : List ℕ) : Type 0 where
  pub farm : Farm
  pub keeps : KeepsRules limits s farm

-- within any limits of no more herds than a farm's record has room for
module _ (limits : Limits) (fit : limits.herds ≤ herds_most) (s : List ℕ) where
  pub outcome-within : Outcome limits s (read_of limits s)
  outcome-within = outcome (answered limits fit s)

  pub refuses-within : (n : ℕ) (refusal : Refusal) → (read_of limits s ≡ refused n refusal) ↔ First limits s n refusal
  refuses-within n refusal = (refused-first s n refusal outcome-within, first-refused s n refusal outcome-within)

  -- a file keeps the rules exactly where no refusal applies to it
  pub taken-exactly : Taken limits s ↔ ((m : ℕ) (other : Refusal) → AppliesAt limits s m other → ⊥)
  taken-exactly = (
    λ t. clear outcome-within ((accepts-within limits fit s t.farm).1 t.keeps),
    λ none.
        keep none (read_of limits s) refl outcome-within,
  )
    where
      clear : {x : FileAnswer} {f : Farm} → Outcome limits s x → x ≡ accepted f → (m : ℕ) (other : Refusal)
          → AppliesAt limits s m other → ⊥
      clear (takes none) e = none
      clear (gives _) e = let c = ap (λ (a : FileAnswer). a.checked) e in clash cc

      keep : ((m : ℕ) (other : Refusal) → AppliesAt limits s m other → ⊥) → (x : FileAnswer) → read_of limits s ≡ x
          → Outcome limits s x → Taken limits s
      keep none x e (takes {f = f} _) = record { farm = f; keeps = (accepts-within limits fit s f).0 e }
      keep none x e (gives {n = n} {refusal = f} y) = absurd (none n f y.applies)

-- within those of where the file comes from
module _ (source : Source) (s : List ℕ) where
  pub outcome-of : Outcome (allowed source) s (read_of (limits_of source) s)
  outcome-of = rw (as-allowed source) (outcome-within (allowed source) (allowed-fit source) s)

  pub first-refusal : (n : ℕ) (refusal : Refusal)
      → (read_of (limits_of source) s ≡ refused n refusal) ↔ First (allowed source) s n refusal
  first-refusal n refusal = rw (as-allowed source) (refuses-within (allowed source) (allowed-fit source) s n refusal)

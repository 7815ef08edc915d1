-- Two steps, one after the other: "Room of a removed herd serves the next", and a herd that is added and removed again
-- leaves the book and the farm's herds as they were. Assumes nothing.
use Rattle.std.specs.Prelude.{Err}
use Prim.Native.Nat.{ℕ, suc, ◌<◌, ◌≤◌}
use mathlib.Core.Path.{◌≡◌, refl, sym, ap, ◌∙◌}
use mathlib.Core.Bool.{true, false, ◌&&◌}
use mathlib.Core.List.{List, [], ◌∷◌, ◌++◌}
use native.Mathlib.Omega.{arith}
use lib.Dec.{leb}
use lib.ListN.{length, take, length-append}
use lib.Seq.{length-take-le}
use lib.IntN.{ℤ, pos, ◌+ℤ◌, ◌-ℤ◌, +ℤ_idr, +ℤ-neg_ℤ_cancel}
use borrow.Author.Tests.{eq-eqb}
use Rattle.base.proofs.Clash.{clash}
use Rattle.base.proofs.Holds.{both_true, same_self}
use Rattle.farm.specs.declared.Label.{Label}
use Rattle.farm.specs.declared.Herd.{Herd}
use Rattle.farm.specs.declared.Refusal.TheVariants.{NoRoomForHerd}
use Rattle.farm.specs.Limits.{label_most, herds_most}
use Rattle.farm.specs.Labels.{all_ok, text, label_ok, same_label}
use Rattle.herd_tests.specs.Tests.{earlier_label}
use Rattle.checks.proofs.Tests.{neither}
use Rattle.lent.specs.Laid.{laid}
use Rattle.lent.proofs.Entries.{length-laid, take-laid}
use Rattle.farm_calls.proofs.Refusals.{in_accepted, accepted-within}
use Rattle.outputs.specs.declared.Totals.{Totals}
use Rattle.outputs.specs.Names.{totals}
use Rattle.outputs.specs.Grams.{grams_at, by_number, totals_of}
use Rattle.outputs.proofs.ByNumber.{fill_all}
use Rattle.books.specs.declared.Book.{Book}
use Rattle.books.specs.declared.Step.TheVariants.{Add, Remove}
use Rattle.books.specs.declared.StepRefusal.{StepRefusal}
use Rattle.books.specs.declared.StepRefusal.TheVariants.{Record}
use Rattle.books.specs.declared.StepAnswer.{StepAnswer}
use Rattle.books.specs.Steps.{removed, named, total_of, moved}
use Rattle.books.specs.Answers.{decided_in, TakesStep}
use Rattle.books.specs.Rules.{Done}
use Rattle.step_theorems.specs.Refusals.{NamesOne, AddsOne, NamedAt, Full, the_array, the_most}
use Rattle.step_theorems.specs.Refusals.{AppliesToStep, Fault, told_by, AppliesTo, to_farm, to_step}
use Rattle.step_theorems.specs.Tallies.{afresh, Tallies, Reached}
use Rattle.step_theorems.specs.Places.{Changes}
use Rattle.step_theorems.proofs.Rules.{of-adds, of-brings}
use Rattle.step_theorems.proofs.Refusals.{step-refused, step-done}
use Rattle.step_theorems.proofs.Herds.{length_removed}
use Rattle.step_theorems.proofs.Sums.{total-none, each-moves}
use Rattle.step_theorems.proofs.Allowed.{Allowed}
use Rattle.step_theorems.proofs.Steps.{step-allowed, step-book, step-array, step-changes, step-accepted}
use Rattle.step_theorems.proofs.Keeping.{step_tallies, reached_tallies}
use Rattle.step_theorems.proofs.Demands.{tallies_small}

-- ---- an add behind a removal is never refused with 9

module _ {h : Herd} {book : Book} {array : List Herd} {r : StepAnswer} {new : List Herd}
    (s : TakesStep Remove h book array r new) (e : r.decided ≡ Done) where
  -- there is an entry more than herds, and there are fewer herds than any farm may have
  one_free : (r.book.count < length new) × (r.book.count < herds_most)
  one_free =
      let a = step-allowed s e in
      let w = accepted-within array book.count a.accepted in
      let hs = take book.count array in
      let n = length_removed h.label hs (a.found NamesOne.removing) in
      let m = length-take-le book.count array w.0 in
      let c : r.book.count ≡ length (removed h.label hs) = ap (λ (b : Book). b.count) (step-book s e) in
      let l : length new ≡ length array = ap length (step-array s e) ∙ length-laid (removed h.label hs) array in
      (omega (arith, w.0), omega (arith, w.1))

  not_full : Full new r.book.count → ⊥
  not_full (the_array k) = omega (arith, one_free.0)
  not_full (the_most k) = omega (arith, one_free.1)

  pub room-after_removal : (g : Herd) → decided_in new r.book Add g ≡ Err (Record NoRoomForHerd) → ⊥
  room-after_removal g q =
      let f = (step-refused new r.book Add g (Record NoRoomForHerd)).0 q in
      go f.told f.is_first.applies
    where
      none : {x : StepRefusal} → AppliesToStep new r.book Add g x → x ≡ Record NoRoomForHerd → ⊥
      none (AppliesToStep.full _ f) q = not_full f
      none (AppliesToStep.too_large _ _) q = clash cc
      none (AppliesToStep.bad_label _) q = clash cc
      none (AppliesToStep.not_present _ _) q = clash cc
      none (AppliesToStep.present _ _) q = clash cc
      none (AppliesToStep.input_missing _ _ _) q = clash cc
      none (AppliesToStep.bad_value _ _ _) q = clash cc

      go : {n : ℕ} {x : Fault} → told_by x ≡ Record NoRoomForHerd → AppliesTo new r.book Add g n x → ⊥
      go q (to_farm {place = n} {refusal = o} a) = (in_accepted new r.book.count).0 (step-accepted s e) n o a
      go q (to_step a) = none a q

-- ---- a herd that is added and removed again

-- a good label is its own
same-own : (l : Label) → label_ok l ≡ true → same_label l l ≡ true
unfolding label_ok same_label
same-own l e =
    let p = (both_true (leb 1 l.len) (leb l.len label_most && all_ok (text l)) e).1 in
    let q = (both_true (leb l.len label_most) (all_ok (text l)) p).0 in
    rw (eq-eqb l.len l.len refl, q) (same_self (text l))

module _ (h : Herd) (ok : same_label h.label h.label ≡ true) where
  removed-last : (hs : List Herd) → earlier_label hs h.label ≡ false → removed h.label (hs ++ (h ∷ [])) ≡ hs
  unfolding removed earlier_label
  removed-last [] e = rw ok
  removed-last (x ∷ xs) e =
      let p = neither (same_label x.label h.label) (earlier_label xs h.label) e in
      rw p.0 (ap (λ (l : List Herd). x ∷ l) (removed-last xs p.1))

  named-last : (hs : List Herd) → earlier_label hs h.label ≡ false → named h.label (hs ++ (h ∷ [])) ≡ h ∷ []
  unfolding named earlier_label
  named-last [] e = rw ok
  named-last (x ∷ xs) e =
      let p = neither (same_label x.label h.label) (earlier_label xs h.label) e in
      rw p.0 (named-last xs p.1)

-- totals to which a herd's were added and from which they were taken again
moved_back : (h : Herd) (t : Totals) → length t.grams ≡ length totals
    → moved (h ∷ []) [] (moved [] (h ∷ []) t) ≡ t
unfolding moved
moved_back h t long =
    ap of_grams
    (sym
    (fill_all
    (λ n. (grams_at (moved [] (h ∷ []) t).grams n -ℤ total_of (h ∷ []) n) +ℤ total_of [] n)
    (length totals)
    (record { filled = λ n b. sym (back n b) })
    (omega arith)
    long))
  where
    of_grams : List ℤ → Totals
    of_grams g = record { grams = g }

    back : (n : ℕ) → n < length totals
        → (grams_at (moved [] (h ∷ []) t).grams n -ℤ total_of (h ∷ []) n) +ℤ total_of [] n ≡ grams_at t.grams n
    back n b =
        let g = grams_at t.grams n in
        let o = total_of (h ∷ []) n in
        ap (λ (z : ℤ). (z -ℤ o) +ℤ total_of [] n) (each-moves [] (h ∷ []) t n b)
        ∙ ap (λ (z : ℤ). z +ℤ total_of [] n) (+ℤ-neg_ℤ_cancel (g -ℤ total_of [] n) o)
        ∙ ap (λ (z : ℤ). (g -ℤ z) +ℤ z) (total-none n) ∙ +ℤ_idr (g -ℤ pos 0) ∙ +ℤ_idr g

book_with : ℕ → Totals → Book
book_with c t = record { count = c; totals = t }

module _ {h : Herd} {book : Book} {array : List Herd} {r : StepAnswer} {new : List Herd}
    (s : TakesStep Add h book array r new) (e : r.decided ≡ Done) where
  abbrev hs : List Herd
  hs = take book.count array

  abbrev more : List Herd
  more = hs ++ (h ∷ [])

  may : Allowed array book Add h
  may = step-allowed s e

  many : length hs ≡ book.count
  many = length-take-le book.count array (accepted-within array book.count may.accepted).0

  counts : r.book.count ≡ length more
  counts = ap (λ (b : Book). b.count) (step-book s e)

  longer : length more ≡ suc (length hs)
  longer = omega (arith, length-append hs (h ∷ []))

  room : length more ≤ length array
  room = omega (arith, longer, many, may.room AddsOne.adding)

  as_long : length new ≡ length array
  as_long = ap length (step-array s e) ∙ length-laid more array

  herds-are : take r.book.count new ≡ more
  herds-are =
      ap (λ (c : ℕ). take c new) counts ∙ ap (take (length more)) (step-array s e) ∙ take-laid more array room

  own-label : same_label h.label h.label ≡ true
  own-label = same-own h.label may.label

  -- of the herd that the removal is handed only the label counts
  module _ (g : Herd) (named_so : g.label ≡ h.label) where
    without : removed g.label (take r.book.count new) ≡ hs
    without =
        ap (λ (l : Label). removed l (take r.book.count new)) named_so ∙ ap (removed h.label) herds-are
        ∙ removed-last h own-label hs (may.new AddsOne.adding)

    taken : named g.label (take r.book.count new) ≡ h ∷ []
    taken =
        ap (λ (l : Label). named l (take r.book.count new)) named_so ∙ ap (named h.label) herds-are
        ∙ named-last h own-label hs (may.new AddsOne.adding)

    -- ---- the removal gives the book back, and the farm's herds

    module _ {r' : StepAnswer} {new' : List Herd} (s' : TakesStep Remove g r.book new r' new')
        (e' : r'.decided ≡ Done) where
      pub added_and_removed-herds : take book.count new' ≡ take book.count array
      added_and_removed-herds =
          ap (take book.count) (step-array s' e' ∙ ap (λ (l : List Herd). laid l new) without)
          ∙ ap (λ (c : ℕ). take c (laid hs new)) (sym many)
          ∙ take-laid hs new (omega (arith, as_long, room, longer))

      pub added_and_removed-book : length book.totals.grams ≡ length totals → r'.book ≡ book
      unfolding book_with
      added_and_removed-book long =
          let named-there = named g.label (take r.book.count new) in
          step-book s' e'
          ∙ ap (λ (l : List Herd). book_with (length l) (moved named-there [] r.book.totals)) without
          ∙ ap (λ (l : List Herd). book_with (length hs) (moved l [] r.book.totals)) taken
          ∙ ap (λ (b : Book). book_with (length hs) (moved (h ∷ []) [] b.totals)) (step-book s e)
          ∙ ap (book_with (length hs)) (moved_back h book.totals long)
          ∙ ap (λ (c : ℕ). book_with c book.totals) many

    -- ---- and of a farm whose book tallies it is never refused

    there : {c : ℕ} → Changes h array book.count new Add c → NamedAt new c g book.count
    there (Changes.adds here others) =
        record {
          inside = omega arith;
          there = omega (arith, as_long, room, longer, many);
          same = rw (here, named_so) own-label;
        }

    module _ (t : Tallies array book) where
      nothing : {x : StepRefusal} → AppliesToStep new r.book Remove g x → ⊥
      nothing (AppliesToStep.too_large n m) = omega (arith, (tallies_small (step_tallies array book Add h t s)).most n)
      nothing (AppliesToStep.bad_label q) = let ok = ap label_ok named_so ∙ may.label in clash cc
      nothing (AppliesToStep.not_present _ none) = none book.count (there (step-changes s e))
      nothing (AppliesToStep.present a _) = let no = of-adds a in clash cc
      nothing (AppliesToStep.full a _) = let no = of-adds a in clash cc
      nothing (AppliesToStep.input_missing b _ _) = let no = of-brings b in clash cc
      nothing (AppliesToStep.bad_value b _ _) = let no = of-brings b in clash cc

      pub added-is-removed : decided_in new r.book Remove g ≡ Done
      added-is-removed = (step-done new r.book Remove g).1 (λ n x a. go a)
        where
          go : {n : ℕ} {x : Fault} → AppliesTo new r.book Remove g n x → ⊥
          go (to_farm {place = n} {refusal = o} a) = (in_accepted new r.book.count).0 (step-accepted s e) n o a
          go (to_step a) = nothing a

-- ---- so of a farm that is reached

afresh-long : (array : List Herd) (count : ℕ) → length (afresh array count).grams ≡ length totals
unfolding totals_of by_number
afresh-long array count = refl

-- the removal is done, and the book and the farm's herds are what they were
pub record BackAgain (book : Book) (array : List Herd) (r : StepAnswer) (new : List Herd) : Type 0 where
  pub done : r.decided ≡ Done
  pub same-book : r.book ≡ book
  pub same-herds : take book.count new ≡ take book.count array

pub added_and_removed : {h g : Herd} {book : Book} {array : List Herd} {r r' : StepAnswer} {new new' : List Herd}
    → Reached array book → TakesStep Add h book array r new → r.decided ≡ Done → g.label ≡ h.label
    → TakesStep Remove g r.book new r' new' → BackAgain book array r' new'
added_and_removed {h} {g} {book} {array} x s e named_so s' =
    let t = reached_tallies x in
    let done = s'.decided ∙ added-is-removed s e g named_so t in
    let long = ap (λ (y : Totals). length y.grams) t.totals ∙ afresh-long array book.count in
    record {
      done = done;
      same-book = added_and_removed-book s e g named_so s' done long;
      same-herds = added_and_removed-herds s e g named_so s' done;
    }

-- What a step does with the array and the book, for every farm that is handed in: there is one result; a refused step
-- changes nothing; a step that is done changes the array entry by entry as `Changes` says and each total as `Moves`
-- says, and leaves a farm that the checks accept. Assumes nothing.
use Rattle.std.specs.Prelude.{Err}
use Prim.Native.Nat.{ℕ, suc, ◌+◌, ◌<◌, ◌≤◌}
use mathlib.Core.Path.{◌≡◌, refl, sym, ap, subst, ◌∙◌}
use mathlib.Core.List.{List, [], ◌∷◌, ◌++◌}
use native.Mathlib.Numerals.{add-one}
use native.Mathlib.Omega.{arith}
use lib.ListN.{length, take, length-append, get_or-append}
use lib.Seq.{length-take-le, get_or-take, get_or-append-add}
use lib.IntN.{ℤ, pos, ◌+ℤ◌, ◌-ℤ◌, +ℤ_idr}
use Rattle.farm.specs.declared.Herd.{Herd}
use Rattle.farm.specs.Herds.{no_herd}
use Rattle.farm.specs.Answers.{Accepted}
use Rattle.checks.specs.Checks.{check_farm}
use Rattle.first_refusal.proofs.Order.{compare}
use Rattle.lent.specs.Laid.{laid, farm_in}
use Rattle.lent.proofs.Entries.{length-laid, laid-at, laid-behind}
use Rattle.farm_calls.proofs.Refusals.{accepted-within}
use Rattle.outputs.specs.Names.{totals}
use Rattle.outputs.specs.Grams.{grams_at}
use Rattle.books.specs.declared.Book.{Book}
use Rattle.books.specs.declared.Step.{Step}
use Rattle.books.specs.declared.Step.TheVariants.{Add, Replace, Remove}
use Rattle.books.specs.declared.StepRefusal.{StepRefusal}
use Rattle.books.specs.declared.StepAnswer.{StepAnswer}
use Rattle.books.specs.Steps.{herds_after, named, total_of, totals_after}
use Rattle.books.specs.Answers.{decided_in, book_after, array_after, TakesStep}
use Rattle.books.specs.Rules.{Decided, Done}
use Rattle.step_theorems.specs.Refusals.{NamesOne, NamedAt}
use Rattle.step_theorems.specs.Places.{entry, Changes}
use Rattle.step_theorems.specs.Moves.{own, Moves}
use Rattle.step_theorems.proofs.Herds.{length-replaced, length_removed}
use Rattle.step_theorems.proofs.Sums.{total-none, total-one, each-moves}
use Rattle.step_theorems.proofs.Allowed.{Allowed, allowed, good-array, good-after}
use Rattle.step_theorems.proofs.Named.{Stands, replaced-at, removed-at}

-- ---- one result

answer : Decided → Book → StepAnswer
answer d b = record { decided = d; book = b }

pub one-step : {step : Step} {h : Herd} {book : Book} {array : List Herd} {r r' : StepAnswer} {new new' : List Herd}
    → TakesStep step h book array r new → TakesStep step h book array r' new' → (r ≡ r') × (new ≡ new')
unfolding answer
one-step {r} {r'} s s' = (
  ap (λ (d : Decided). answer d r.book) (s.decided ∙ sym s'.decided)
      ∙ ap (answer r'.decided) (s.new_book ∙ sym s'.new_book),
  s.array ∙ sym s'.array,
)

-- ---- a step that is done, entry by entry

module _ (array : List Herd) (book : Book) (h : Herd) where
  abbrev hs : List Herd
  hs = take book.count array

  abbrev after : Step → List Herd
  after step = herds_after step h hs

  module _ {step : Step} (a : Allowed array book step h) where
    fits : book.count ≤ length array
    fits = (accepted-within array book.count a.accepted).0

    many : length hs ≡ book.count
    many = length-take-le book.count array fits

    room : length (after step) ≤ length array
    room = omega (arith, (good-after array book h step a).few)

    -- the entries of the array before and after
    old-at : (i : ℕ) → i < book.count → entry hs i ≡ entry array i
    old-at i b = get_or-take book.count array i no_herd b

    new-at : (i : ℕ) → i < length (after step) → entry (laid (after step) array) i ≡ entry (after step) i
    new-at i b = laid-at (after step) array i no_herd b (omega (arith, room))

    stays : (i : ℕ) → length (after step) ≤ i → entry (laid (after step) array) i ≡ entry array i
    stays i b = laid-behind (after step) array i no_herd b

    -- the herd that is named
    named-at : {place : ℕ} → Stands h.label hs place → NamedAt array book.count h place
    named-at {place} n =
        let b : place < book.count = omega (arith, n.inside, many) in
        record { inside = b; there = omega (arith, fits); same = rw (old-at place b) at n.same }

    named-old : {place : ℕ} → Stands h.label hs place → named h.label hs ≡ entry array place ∷ []
    named-old {place} n =
        n.alone ∙ ap (λ (x : Herd). x ∷ []) (old-at place (omega (arith, n.inside, many)))

  changes : (step : Step) → Allowed array book step h
      → Changes h array book.count (laid (after step) array) step (length (after step))
  changes Add a =
      let n : length (after Add) ≡ book.count + 1 = omega (arith, length-append hs (h ∷ []), many a) in
      let put : entry (hs ++ (h ∷ [])) (length hs + 0) ≡ h = get_or-append-add hs (h ∷ []) 0 no_herd in
      let at : length hs + 0 ≡ book.count = omega (arith, many a) in
      subst (λ (c : ℕ). Changes h array book.count (laid (after Add) array) Add c) (sym n)
      (Changes.adds
      (new-at a book.count (omega arith) ∙ subst (λ (i : ℕ). entry (hs ++ (h ∷ [])) i ≡ h) at put)
      (λ i other.
      compare i book.count
      (λ b. new-at a i (omega arith) ∙ get_or-append hs (h ∷ []) no_herd i (omega (arith, many a)) ∙ old-at a i b)
      (λ b. stays a i (omega arith))
      (λ e. absurd (other e))))
  changes Replace a =
      let n : length (after Replace) ≡ book.count = length-replaced h hs ∙ many a in
      let x = replaced-at h hs (a.found NamesOne.replacing) in
      let p = named-at a x.stands in
      subst (λ (c : ℕ). Changes h array book.count (laid (after Replace) array) Replace c) (sym n)
      (Changes.replaces p (new-at a x.place (omega (arith, p.inside)) ∙ x.here)
      (λ i other.
      compare i book.count
      (λ b. new-at a i (omega arith) ∙ x.others i other ∙ old-at a i b)
      (λ b. stays a i (omega arith))
      (λ e. stays a i (omega arith))))
  changes Remove a =
      let n : suc (length (after Remove)) ≡ book.count =
      length_removed h.label hs (a.found NamesOne.removing) ∙ many a in
      let x = removed-at h.label hs (a.found NamesOne.removing) in
      let p = named-at a x.stands in
      let left : book.count ≡ length (after Remove) + 1 = omega arith in
      Changes.removes p left
      (λ i b. new-at a i (omega (arith, p.inside)) ∙ x.before i b ∙ old-at a i (omega (arith, p.inside)))
      (λ i b c. new-at a i c ∙ x.behind i b ∙ old-at a (suc i) (omega arith)
      ∙ ap (entry array) (sym (add-one i)))
      (λ i b. stays a i b)

  moves : (step : Step) → Allowed array book step h → (n : ℕ) → n < length totals
      → Moves h array book.count n (grams_at book.totals.grams n) step
      (grams_at (totals_after step h hs book.totals).grams n)
  moves Add a n b =
      let g = grams_at book.totals.grams n in
      subst (λ (z : ℤ). Moves h array book.count n g Add z)
      (sym
      (each-moves [] (h ∷ []) book.totals n b
      ∙ ap (λ (z : ℤ). (g -ℤ z) +ℤ total_of (h ∷ []) n) (total-none n)
      ∙ ap (λ (z : ℤ). (g -ℤ pos 0) +ℤ z) (total-one n h) ∙ ap (λ (z : ℤ). z +ℤ own n h) (+ℤ_idr g)))
      Moves.by_new
  moves Replace a n b =
      let g = grams_at book.totals.grams n in
      let x = replaced-at h hs (a.found NamesOne.replacing) in
      let old = entry array x.place in
      subst (λ (z : ℤ). Moves h array book.count n g Replace z)
      (sym
      (each-moves (named h.label hs) (h ∷ []) book.totals n b
      ∙ ap (λ (l : List Herd). (g -ℤ total_of l n) +ℤ total_of (h ∷ []) n) (named-old a x.stands)
      ∙ ap (λ (z : ℤ). (g -ℤ z) +ℤ total_of (h ∷ []) n) (total-one n old)
      ∙ ap (λ (z : ℤ). (g -ℤ own n old) +ℤ z) (total-one n h)))
      (Moves.by_both (named-at a x.stands))
  moves Remove a n b =
      let g = grams_at book.totals.grams n in
      let x = removed-at h.label hs (a.found NamesOne.removing) in
      let old = entry array x.place in
      subst (λ (z : ℤ). Moves h array book.count n g Remove z)
      (sym
      (each-moves (named h.label hs) [] book.totals n b
      ∙ ap (λ (l : List Herd). (g -ℤ total_of l n) +ℤ total_of [] n) (named-old a x.stands)
      ∙ ap (λ (z : ℤ). (g -ℤ z) +ℤ total_of [] n) (total-one n old)
      ∙ ap (λ (z : ℤ). (g -ℤ own n old) +ℤ z) (total-none n) ∙ +ℤ_idr (g -ℤ own n old)))
      (Moves.by_old (named-at a x.stands))

-- ---- the theorems

module _ {step : Step} {h : Herd} {book : Book} {array : List Herd} {r : StepAnswer} {new : List Herd}
    (s : TakesStep step h book array r new) where
  -- the array is as long as it was
  pub step-length : length new ≡ length array
  step-length = ap length s.array ∙ go (decided_in array book step h)
    where
      go : (d : Decided) → length (array_after d (take book.count array) array step h) ≡ length array
      go Done = length-laid (herds_after step h (take book.count array)) array
      go (Err x) = refl

  -- "A refused step leaves farm and totals unchanged"
  pub refused-step-changes-nothing : {x : StepRefusal} → r.decided ≡ Err x → (r.book ≡ book) × (new ≡ array)
  refused-step-changes-nothing e =
      let d = sym s.decided ∙ e in
      (rw d at s.new_book, rw d at s.array)

  module _ (e : r.decided ≡ Done) where
    pub step-allowed : Allowed array book step h
    step-allowed = allowed array book step h (sym s.decided ∙ e)

    pub step-book : r.book ≡ book_after Done (take book.count array) book step h
    step-book = rw (sym s.decided ∙ e) at s.new_book

    pub step-array : new ≡ laid (herds_after step h (take book.count array)) array
    step-array = rw (sym s.decided ∙ e) at s.array

    -- only the named herd's record changes, and what stands behind the last herd stays
    pub step-changes : Changes h array book.count new step r.book.count
    step-changes = rw (step-book, step-array) (changes array book h step step-allowed)

    -- each total moves by exactly the old and the new herd's figures
    pub step-moves : (n : ℕ) → n < length totals
        → Moves h array book.count n (grams_at book.totals.grams n) step (grams_at r.book.totals.grams n)
    step-moves n b = rw step-book (moves array book h step step-allowed n b)

    -- and the farm is one that the checks accept
    pub step-accepted : check_farm (farm_in new r.book.count) ≡ Accepted
    step-accepted =
        rw (step-book, step-array)
        (good-array (herds_after step h (take book.count array)) array (good-after array book h step step-allowed))

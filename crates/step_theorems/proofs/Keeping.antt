-- A book that tallies with the herds beside it tallies after every step, refused or not; so does that of an empty farm
-- and that of a farm that was read; and so that of every farm that is reached by steps from there. Assumes nothing.
use Rattle.std.specs.Prelude.{Err}
use Prim.Native.Nat.{ℕ, ◌≤◌}
use mathlib.Core.Path.{◌≡◌, refl, sym, ap, subst, ◌∙◌}
use mathlib.Core.List.{List, [], map}
use native.Mathlib.Omega.{arith}
use lib.ListN.{length, take}
use Rattle.base.specs.Each.{none}
use Rattle.farm.specs.declared.Herd.{Herd}
use Rattle.farm.specs.Limits.{herds_most}
use Rattle.farm.specs.Answers.{Accepted}
use Rattle.checks.specs.Checks.{check_farm}
use Rattle.checks.specs.Accepts.{Distinct}
use Rattle.lent.specs.Laid.{laid}
use Rattle.lent.proofs.Entries.{take-laid}
use Rattle.limits.specs.declared.Source.TheVariants.{Cooperative}
use Rattle.rules_theorems.proofs.Allowed.{allowed-fit}
use Rattle.rules_theorems.proofs.Accepts.{accepts-within}
use Rattle.rules_theorems.proofs.Passing.{passes-within}
use Rattle.lent_file.specs.declared.LentAnswer.{LentAnswer}
use Rattle.lent_file.specs.Reading.{ReadInto}
use Rattle.lent_theorems.specs.Arrays.{allowed_into}
use Rattle.lent_theorems.proofs.Reading.{accepted_into, read_loaded}
use Rattle.outputs.specs.Grams.{totals_of}
use Rattle.model.specs.Answers.{herd_figures}
use Rattle.books.specs.declared.Book.{Book}
use Rattle.books.specs.declared.Step.{Step}
use Rattle.books.specs.declared.StepAnswer.{StepAnswer}
use Rattle.books.specs.Steps.{herds_after, totals_after}
use Rattle.books.specs.Answers.{decided_in, book_after, array_after, TakesStep}
use Rattle.books.specs.Rules.{Decided, Done}
use Rattle.step_theorems.specs.Tallies.{book_of, Tallies, Reached, empty, read, stepped}
use Rattle.step_theorems.proofs.Sums.{totals-after}
use Rattle.step_theorems.proofs.Allowed.{allowed, good-array, good-after}

-- ---- a step

module _ (array : List Herd) (book : Book) (step : Step) (h : Herd) (t : Tallies array book) where
  abbrev hs : List Herd
  hs = take book.count array

  abbrev after : List Herd
  after = herds_after step h hs

  done_tallies : decided_in array book step h ≡ Done
      → Tallies (laid after array) (book_after Done hs book step h)
  done_tallies e =
      let a = allowed array book step h e in
      let g = good-after array book h step a in
      let n : length after ≤ length array = omega (arith, g.few) in
      record {
        totals = ap (totals_after step h hs) t.totals ∙ totals-after step h hs a.found
            ∙ ap (λ (l : List Herd). totals_of (map herd_figures l)) (sym (take-laid after array n));
        accepted = good-array after array g;
      }

  decided_tallies : Tallies (array_after (decided_in array book step h) hs array step h)
      (book_after (decided_in array book step h) hs book step h)
  decided_tallies = go (decided_in array book step h) refl
    where
      go : (d : Decided) → decided_in array book step h ≡ d
          → Tallies (array_after d hs array step h) (book_after d hs book step h)
      go Done e = done_tallies e
      go (Err refusal) e = t

  pub step_tallies : {r : StepAnswer} {new : List Herd} → TakesStep step h book array r new → Tallies new r.book
  step_tallies {r} {new} s =
      subst (λ (b : Book). Tallies new b) (sym s.new_book)
      (subst (λ (l : List Herd). Tallies l (book_after (decided_in array book step h) hs book step h)) (sym s.array)
      decided_tallies)

-- ---- where it begins

pub empty_tallies : (array : List Herd) → Tallies array (book_of array 0)
empty_tallies array =
    record {
      totals = refl;
      accepted = good-array [] array (record { few = omega arith; herds = none; labels = Distinct.none });
    }

pub read_tallies : {s : List ℕ} {old : List Herd} {r : LentAnswer} {new : List Herd} → ReadInto s old r new
    → r.checked ≡ Accepted → Tallies new (book_of new r.count)
read_tallies {s} {old} {r} {new} into e =
    let within = allowed_into (length old) in
    let fit : within.herds ≤ herds_most = omega (arith, allowed-fit Cooperative) in
    let taken = accepted_into into e in
    let f = taken.farm in
    let passes : check_farm f ≡ Accepted =
    passes-within within fit s f ((accepts-within within fit s f).1 taken.keeps) in
    record { totals = refl; accepted = rw (read_loaded into taken.keeps) passes }

-- ---- after every sequence of steps

pub reached_tallies : {array : List Herd} {book : Book} → Reached array book → Tallies array book
reached_tallies (empty {array}) = empty_tallies array
reached_tallies (read into e) = read_tallies into e
reached_tallies (stepped {array} {book} {step} {h} x s) = step_tallies array book step h (reached_tallies x) s

-- What follows for the caller of `take_step` from what its calls give: the farm that a step was done on is the first
-- entries of the array, so what is told and stored is what 02 says. Assumes nothing.
use Rattle.std.specs.Prelude.{Err}
use Prim.Native.Nat.{ℕ}
use mathlib.Core.Path.{◌≡◌, refl, ap, ◌∙◌}
use mathlib.Core.Bool.{Bool, true, false}
use mathlib.Core.List.{List}
use lib.ListN.{length, take}
use lib.Dec.{ltb}
use borrow.Author.Tests.{ltb-true, ltb-false}
use Rattle.base.proofs.Clash.{clash}
use Rattle.farm.specs.declared.Herd.{Herd}
use Rattle.farm.specs.declared.Farm.{Farm}
use Rattle.farm.specs.Limits.{herds_most}
use Rattle.farm.specs.Answers.{Accepted, Checked}
use Rattle.checks.specs.Checks.{herds_of, check_farm}
use Rattle.lent.specs.Laid.{laid, farm_in}
use Rattle.lent.proofs.Loaded.{loaded_herds, beyond-array, beyond-most, refused-beyond}
use Rattle.books.specs.declared.Book.{Book}
use Rattle.books.specs.declared.Step.{Step}
use Rattle.books.specs.declared.Stepped.{Stepped}
use Rattle.books.specs.declared.StepAnswer.{StepAnswer}
use Rattle.books.specs.Steps.{herds_after, totals_after}
use Rattle.books.specs.Rules.{decided_after, decided_of, Decided, Done}
use Rattle.books.specs.Answers.{decided_in, book_after, array_after, stored_herds, stored_totals, StepsTo, TakesStep}
use Rattle.lent_steps.specs.Told.{told, told_of}

-- ---- a step that was done was done on the first entries

accepted : (c : Checked) (d : Decided) → decided_after c d ≡ Done → c ≡ Accepted
accepted Accepted d e = refl
accepted (Err refused) d e = clash cc

first-entries : (old : List Herd) (count : ℕ) → check_farm (farm_in old count) ≡ Accepted
    → herds_of (farm_in old count) ≡ take count old
first-entries old count e = go (ltb (length old) count) refl (ltb herds_most count) refl
  where
    go : (s : Bool) → ltb (length old) count ≡ s → (m : Bool) → ltb herds_most count ≡ m
        → herds_of (farm_in old count) ≡ take count old
    go true k m l =
        let r = refused-beyond (farm_in old count) (beyond-array old count (ltb-true (length old) count k)) in clash cc
    go false k true l =
        let r = refused-beyond (farm_in old count) (beyond-most old count (ltb-true herds_most count l)) in clash cc
    go false k false l = loaded_herds old count (ltb-false (length old) count k) (ltb-false herds_most count l)

-- ---- what is told and stored, by what was decided

module _ (old : List Herd) (book : Book) (step : Step) (h : Herd) (e : Stepped) (hs gs : List Herd) where
  book-told : (d : Decided) → (d ≡ Done → gs ≡ hs) → e.farm.count ≡ length (stored_herds d gs step h)
      → e.totals ≡ stored_totals d gs book.totals step h
      → told d book e ≡ book_after d hs book step h
  book-told Done same ec et =
      let c : e.farm.count ≡ length (herds_after step h hs) =
      ec ∙ ap (λ (l : List Herd). length (herds_after step h l)) (same refl) in
      let t : e.totals ≡ totals_after step h hs book.totals =
      et ∙ ap (λ (l : List Herd). totals_after step h l book.totals) (same refl) in
      rw (c, t)
  book-told (Err refusal) same ec et = refl

  array-stored : (d : Decided) → (d ≡ Done → gs ≡ hs) → herds_of e.farm ≡ stored_herds d gs step h
      → laid (herds_of e.farm) old ≡ array_after d hs old step h
  array-stored Done same eh =
      ap (λ (l : List Herd). laid l old) (eh ∙ ap (λ (l : List Herd). herds_after step h l) (same refl))
  array-stored (Err refusal) same eh = ap (λ (l : List Herd). laid l old) eh

-- ---- the step

module _ (old : List Herd) (book : Book) (step : Step) (h : Herd) where
  -- on the farm of the array itself
  taken : (e : Stepped) → StepsTo (farm_in old book.count) (length old) book.totals step h e
      → TakesStep step h book old (told_of book e) (laid (herds_of e.farm) old)
  unfolding decided_in decided_of
  taken e to =
      let f = farm_in old book.count in
      let d = decided_of f (length old) book.totals step h in
      let same : d ≡ Done → herds_of f ≡ take book.count old =
      λ done. first-entries old book.count (accepted (check_farm f) _ done) in
      record {
        decided = to.decided;
        new_book = ap (λ (k : Decided). told k book e) to.decided
            ∙ book-told old book step h e (take book.count old) (herds_of f) d same to.count to.totals;
        array = array-stored old book step h e (take book.count old) (herds_of f) d same to.herds;
      }

  pub follows : (f : Farm) (e : Stepped) (t : StepAnswer) (new : List Herd) → f ≡ farm_in old book.count
      → StepsTo f (length old) book.totals step h e → new ≡ laid (herds_of e.farm) old → t ≡ told_of book e
      → TakesStep step h book old t new
  follows f e t new ef to en et = rw (et, en) (taken e (rw ef at to))

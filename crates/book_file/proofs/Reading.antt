-- The book of no herds, and of those that a file says: each law in the form that a place of src/lib.rt wants; what
-- follows for the caller of `read_book`; and what that means. Assumes nothing.
use Prim.Native.Nat.{ℕ, ◌≤◌}
use mathlib.Core.Path.{◌≡◌, refl, sym, ap, ◌∙◌}
use native.Mathlib.Omega.{arith}
use mathlib.Core.List.{List, [], map}
use lib.ListN.{length, take}
use Rattle.farm.specs.declared.Herd.{Herd}
use Rattle.farm.specs.declared.Farm.{Farm}
use Rattle.farm.specs.Limits.{herds_most}
use Rattle.farm.specs.Answers.{Accepted}
use Rattle.limits.specs.declared.Limits.{Limits}
use Rattle.checks.specs.Checks.{herds_of, check_farm}
use Rattle.reader.specs.declared.FileAnswer.{FileAnswer}
use Rattle.reader.specs.Files.{read_of}
use Rattle.rules_theorems.proofs.Farms.{herds-of}
use Rattle.rules_theorems.proofs.Accepts.{accepts-within}
use Rattle.rules_theorems.proofs.Refuses.{Outcome, takes, gives, outcome-within}
use Rattle.rules_theorems.proofs.Passing.{passes-within}
use Rattle.outputs.specs.declared.Figures.{Figures}
use Rattle.outputs.specs.declared.Totals.{Totals}
use Rattle.outputs.specs.Grams.{GramsTo, figure_most, zeros, total_grams, totals_of}
use Rattle.outputs.proofs.Adding.{totals-of-sum}
use Rattle.model.specs.Answers.{herd_figures, Added}
use Rattle.model.proofs.AnswerSteps.{zeros-small}
use Rattle.lent.specs.Laid.{laid}
use Rattle.lent.proofs.Entries.{take-laid}
use Rattle.lent_file.specs.Reading.{limits_for, read_for, ReadInto}
use Rattle.books.specs.declared.Book.{Book}
use Rattle.book_file.specs.declared.BookAnswer.{BookAnswer}
use Rattle.book_file.specs.declared.Read.{Read}
use Rattle.book_file.specs.Books.{book_of, herds_read, IsRead, told_of, ReadsBook}

book-is : {n m : ℕ} {t u : Totals} → n ≡ m → t ≡ u
    → ◌≡◌ {A = Book} (record { count = n; totals = t }) (record { count = m; totals = u })
book-is e q = rw (e, q)

-- ---- no herds

module _ (sum : Figures) (es : sum.grams ≡ zeros) where
  pub none-small : GramsTo figure_most sum.grams
  none-small = zeros-small sum es

  pub none_booked : (t : Totals) → t.grams ≡ total_grams sum.grams → record { count = 0; totals = t } ≡ book_of []
  none_booked t et = book-is refl (totals-of-sum herd_figures [] t (et ∙ ap total_grams es))

pub ruleset empty_steps = (none-small, none_booked)

-- ---- a file

-- what holds of a farm that is read for an array of so many entries, and of that of no herds which a refusal has
record Fine (len : ℕ) (f : Farm) : Type 0 where
  passes : check_farm f ≡ Accepted
  count : f.count ≡ length (herds_of f)
  room : length (herds_of f) ≤ len

module _ (len : ℕ) (s : List ℕ) where
  abbrev within : Limits
  within = limits_for len

  fit : within.herds ≤ herds_most
  fit = omega arith

  read-fine : Fine len (read_for len s).farm
  unfolding read_for check_farm
  read-fine = go (read_of within s) refl (outcome-within within fit s)
    where
      go : (a : FileAnswer) → read_of within s ≡ a → Outcome within s a → Fine len a.farm
      go a e (takes {f = f} _) =
          let says = ((accepts-within within fit s f).0 e).says in
          let hs = says.herds in
          let is : herds_of f ≡ hs = ap (λ (g : Farm). herds_of g) says.is ∙ herds-of hs in
          record {
            passes = passes-within within fit s f e;
            count = ap (λ (g : Farm). g.count) says.is ∙ ap length (sym is);
            room = rw is (omega (arith, says.most));
          }
      go a e (gives _) = record { passes = refl; count = refl; room = omega arith }

  module _ (a : FileAnswer) (q : a ≡ read_for len s) where
    pub file-passes : check_farm a.farm ≡ Accepted
    file-passes = rw q read-fine.passes

    pub file-small : (sum : Figures) → Added a.farm sum → GramsTo figure_most sum.grams
    file-small sum added = added.small

    pub file-read : (sum : Figures) (t : Totals) → Added a.farm sum → t.grams ≡ total_grams sum.grams
        → IsRead len s (record { answer = a; totals = t })
    file-read sum t added et =
        record {
          answer = q;
          totals = totals-of-sum herd_figures (herds_of a.farm) t (et ∙ ap total_grams added.is)
              ∙ ap (λ (b : FileAnswer). totals_of (map herd_figures (herds_of b.farm))) q;
        }

pub ruleset file_steps = (file-passes, file-small, file-read)

-- ---- the call

pub follows : (s : List ℕ) (old : List Herd) (b : Read) (t : BookAnswer) (new : List Herd)
    → IsRead (length old) s b → new ≡ laid (herds_of b.answer.farm) old → t ≡ told_of b → ReadsBook s old t new
follows s old b t new is en et =
    let told = ap (λ (a : FileAnswer). a.farm.count) is.answer ∙ (read-fine (length old) s).count in
    record {
      checked = ap (λ (x : BookAnswer). x.checked) et ∙ ap (λ (a : FileAnswer). a.checked) is.answer;
      book = ap (λ (x : BookAnswer). x.book) et ∙ book-is told is.totals;
      array = en ∙ ap (λ (a : FileAnswer). laid (herds_of a.farm) old) is.answer;
    }

-- ---- what it means: reading has given what `read_into` gives, and the book is that of the array's first entries

module _ {s : List ℕ} {old : List Herd} {r : BookAnswer} {new : List Herd} (reads : ReadsBook s old r new) where
  fine : Fine (length old) (read_for (length old) s).farm
  fine = read-fine (length old) s

  counted : r.book.count ≡ length (herds_read (length old) s)
  counted = ap (λ (b : Book). b.count) reads.book

  pub as_into : ReadInto s old (record { checked = r.checked; count = r.book.count }) new
  as_into =
      let n : r.book.count ≡ (read_for (length old) s).farm.count = counted ∙ sym fine.count in
      record { answer = rw (reads.checked, n); array = reads.array }

  pub book-of-entries : r.book ≡ book_of (take r.book.count new)
  book-of-entries =
      let hs = herds_read (length old) s in
      let first : take r.book.count new ≡ hs =
      rw (counted, reads.array) (take-laid hs old fine.room) in
      reads.book ∙ ap book_of (sym first)

-- The calls that give a farm its first book begin what is reached by steps: `empty_book`, and `read_book` of a file
-- that is accepted. Assumes nothing.
use Prim.Native.Nat.{ℕ}
use mathlib.Core.Path.{◌≡◌, sym, ap, subst}
use mathlib.Core.List.{List, []}
use Rattle.farm.specs.declared.Herd.{Herd}
use Rattle.farm.specs.Answers.{Accepted}
use Rattle.outputs.specs.declared.Totals.{Totals}
use Rattle.books.specs.declared.Book.{Book}
use Rattle.book_file.specs.declared.BookAnswer.{BookAnswer}
use Rattle.book_file.specs.Books as begun
use Rattle.book_file.specs.Books.{ReadsBook}
use Rattle.book_file.proofs.Reading.{as_into, book-of-entries}
use Rattle.step_theorems.specs.Tallies.{book_of, Reached, empty, read}

pub empty-reached : {array : List Herd} → Reached array (begun.book_of [])
empty-reached = empty

module _ {s : List ℕ} {old : List Herd} {r : BookAnswer} {new : List Herd} (reads : ReadsBook s old r new) where
  afresh-read : r.book ≡ book_of new r.book.count
  afresh-read =
      ap (λ (t : Totals). record { count = r.book.count; totals = t })
      (ap (λ (b : Book). b.totals) (book-of-entries reads))

  pub read-reached : r.checked ≡ Accepted → Reached new r.book
  read-reached e = subst (λ (b : Book). Reached new b) (sym afresh-read) (read (as_into reads) e)

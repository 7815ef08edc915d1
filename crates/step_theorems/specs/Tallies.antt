-- 02, W11: "Keep them stored with the farm and true after every such step, equal to the totals worked out afresh";
-- "For a farm that began empty or came from an accepted file and changed only by these steps, demands 2 and 3 hold
-- after each step." When a book tallies with the herds beside it, and which arrays and books such a farm comes to. To
-- be believed.
use Rattle.std.specs.Prelude.{ℕ, ◌≡◌, List, map, take}
use Rattle.farm.specs.declared.Herd.{Herd}
use Rattle.farm.specs.Answers.{Accepted}
use Rattle.checks.specs.Checks.{check_farm}
use Rattle.lent.specs.Laid.{farm_in}
use Rattle.lent_file.specs.declared.LentAnswer.{LentAnswer}
use Rattle.lent_file.specs.Reading.{ReadInto}
use Rattle.outputs.specs.declared.Totals.{Totals}
use Rattle.outputs.specs.Grams.{totals_of}
use Rattle.model.specs.Answers.{herd_figures}
use Rattle.books.specs.declared.Book.{Book}
use Rattle.books.specs.declared.Step.{Step}
use Rattle.books.specs.declared.StepAnswer.{StepAnswer}
use Rattle.books.specs.Answers.{TakesStep}

-- the totals of the first `count` herds, worked out afresh, and the book of them
abbrev pub afresh : List Herd → ℕ → Totals
afresh array count = totals_of (map herd_figures (take count array))

abbrev pub book_of : List Herd → ℕ → Book
book_of array count = record { count = count; totals = afresh array count }

-- the stored totals are those worked out afresh, and the farm is one that the checks accept
pub record Tallies (array : List Herd) (book : Book) : Type 0 where
  pub totals : book.totals ≡ afresh array book.count
  pub accepted : check_farm (farm_in array book.count) ≡ Accepted

-- a farm began empty, or came from an accepted file, and changed only by steps, refused ones among them
pub data Reached : List Herd → Book → Type 0 where
  empty : {array : List Herd} → Reached array (book_of array 0)
  read : {s : List ℕ} {old : List Herd} {r : LentAnswer} {new : List Herd} → ReadInto s old r new
      → r.checked ≡ Accepted → Reached new (book_of new r.count)
  stepped : {array : List Herd} {book : Book} {step : Step} {h : Herd} {r : StepAnswer} {new : List Herd}
      → Reached array book → TakesStep step h book array r new → Reached new r.book

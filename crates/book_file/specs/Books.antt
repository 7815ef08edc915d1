-- 02, W11: the book of a farm "that began empty or came from an accepted file": how many herds it has, and their totals
-- worked out afresh. To be believed: `book_of`, `ReadsBook`. The others mirror the code.
use Rattle.std.specs.Prelude.{ℕ, ◌≡◌, List, map, length}
use Rattle.farm.specs.declared.Herd.{Herd}
use Rattle.checks.specs.Checks.{herds_of}
use Rattle.outputs.specs.Grams.{totals_of}
use Rattle.model.specs.Answers.{herd_figures}
use Rattle.lent.specs.Laid.{laid}
use Rattle.lent_file.specs.Reading.{read_for}
use Rattle.books.specs.declared.Book.{Book}
use Rattle.book_file.specs.declared.BookAnswer.{BookAnswer}
use Rattle.book_file.specs.declared.Read.{Read}

-- the book of these herds
abbrev pub book_of : List Herd → Book
book_of hs = record { count = length hs; totals = totals_of (map herd_figures hs) }

-- the herds that a file says for an array of so many entries; where it is refused, none
abbrev pub herds_read : ℕ → List ℕ → List Herd
herds_read len s = herds_of (read_for len s).farm

-- a file s read into an array that held `old` gives r, and the array holds `new`
pub record ReadsBook (s : List ℕ) (old : List Herd) (r : BookAnswer) (new : List Herd) : Type 0 where
  pub checked : r.checked ≡ (read_for (length old) s).checked
  pub book : r.book ≡ book_of (herds_read (length old) s)
  pub array : new ≡ laid (herds_read (length old) s) old

-- ---- as the code has it

pub record IsRead (len : ℕ) (s : List ℕ) (r : Read) : Type 0 where
  pub answer : r.answer ≡ read_for len s
  pub totals : r.totals ≡ totals_of (map herd_figures (herds_read len s))

abbrev pub told_of : Read → BookAnswer
told_of r = record { checked = r.answer.checked; book = record { count = r.answer.farm.count; totals = r.totals } }

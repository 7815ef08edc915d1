-- 02, W11: what a step gives, on a farm by value and on a lent array of herd records with its book. "A refused step
-- leaves farm and totals unchanged"; 02, W12: "W11's steps work on the same array by the same rule", so every entry
-- behind the last herd stays as it was. To be believed: `TakesStep`.
use Rattle.std.specs.Prelude.{ℕ, ◌≡◌, List, [], length, take, Err}
use Rattle.farm.specs.declared.Herd.{Herd}
use Rattle.farm.specs.declared.Farm.{Farm}
use Rattle.checks.specs.Checks.{herds_of}
use Rattle.lent.specs.Laid.{laid, farm_in}
use Rattle.outputs.specs.declared.Totals.{Totals}
use Rattle.books.specs.declared.Book.{Book}
use Rattle.books.specs.declared.Step.{Step}
use Rattle.books.specs.declared.StepAnswer.{StepAnswer}
use Rattle.books.specs.declared.Stepped.{Stepped}
use Rattle.books.specs.Steps.{herds_after, totals_after}
use Rattle.books.specs.Rules.{decided_of, Decided, Done}

-- ---- on a lent array, of which the first `count` entries are the farm's herds

unfoldable pub decided_in : List Herd → Book → Step → Herd → Decided
decided_in array book step h = decided_of (farm_in array book.count) (length array) book.totals step h

-- the book afterwards, and the array
abbrev pub book_after : Decided → List Herd → Book → Step → Herd → Book
book_after Done hs book step h =
    record { count = length (herds_after step h hs); totals = totals_after step h hs book.totals }
book_after (Err refusal) hs book step h = book

abbrev pub array_after : Decided → List Herd → List Herd → Step → Herd → List Herd
array_after Done hs old step h = laid (herds_after step h hs) old
array_after (Err refusal) hs old step h = old

-- a step on an array that held `old` gives r, and the array holds `new`
pub record TakesStep (step : Step) (h : Herd) (book : Book) (old : List Herd) (r : StepAnswer) (new : List Herd)
    : Type 0 where
  pub decided : r.decided ≡ decided_in old book step h
  pub new_book : r.book ≡ book_after (decided_in old book step h) (take book.count old) book step h
  pub array : new ≡ array_after (decided_in old book step h) (take book.count old) old step h

-- ---- on a farm by value, as the code has it; no reader has to believe it

-- the herds that are to be stored: of a refused step none
abbrev pub stored_herds : Decided → List Herd → Step → Herd → List Herd
stored_herds Done hs step h = herds_after step h hs
stored_herds (Err refusal) hs step h = []

abbrev pub stored_totals : Decided → List Herd → Totals → Step → Herd → Totals
stored_totals Done hs t step h = totals_after step h hs t
stored_totals (Err refusal) hs t step h = t

pub record StepsTo (f : Farm) (room : ℕ) (t : Totals) (step : Step) (h : Herd) (r : Stepped) : Type 0 where
  pub decided : r.decided ≡ decided_of f room t step h
  pub herds : herds_of r.farm ≡ stored_herds (decided_of f room t step h) (herds_of f) step h
  pub count : r.farm.count ≡ length (stored_herds (decided_of f room t step h) (herds_of f) step h)
  pub totals : r.totals ≡ stored_totals (decided_of f room t step h) (herds_of f) t step h

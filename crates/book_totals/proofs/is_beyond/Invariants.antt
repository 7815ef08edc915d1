-- `book_totals::is_beyond` meets its contract: one of the totals that are left is beyond exactly where one of all is.
-- Assumes nothing.
use mathlib.Core.Path.{◌≡◌}
use lib.ListN.{drop}
use Rattle.books.specs.Rules.{any_beyond, beyond}
use Rattle.book_totals.proofs.is_beyond.Given as goal

abbrev pub invariant-loop-g : goal.invariant-loop-g
invariant-loop-g l = any_beyond (drop l.g-index l.fn.t.grams) ≡ beyond l.fn.t

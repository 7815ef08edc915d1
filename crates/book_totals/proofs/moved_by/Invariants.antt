-- `book_totals::moved_by` meets its contract: the loop fills the table number by number. Assumes nothing.
use mathlib.Core.Path.{◌≡◌}
use lib.ListN.{length}
use lib.IntN.{◌+ℤ◌, ◌-ℤ◌}
use Rattle.outputs.specs.Names.{totals}
use Rattle.outputs.specs.Grams.{grams_at}
use Rattle.outputs.proofs.ByNumber.{Filled}
use Rattle.book_totals.proofs.moved_by.Given as goal

abbrev pub invariant-loop-i : goal.invariant-loop-i
invariant-loop-i l = (length l.r.grams ≡ length totals)
    × Filled (λ n. (grams_at l.t.grams n -ℤ grams_at l.gone.grams n) +ℤ grams_at l.come.grams n) l.i l.r.grams

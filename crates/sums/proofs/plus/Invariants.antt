-- `sums::plus` meets its contract: the loop fills the table number by number. Assumes nothing.
use mathlib.Core.Path.{◌≡◌}
use lib.ListN.{length}
use lib.IntN.{◌+ℤ◌}
use Rattle.outputs.specs.Names.{rows}
use Rattle.outputs.specs.Grams.{grams_at}
use Rattle.outputs.proofs.ByNumber.{Filled}
use Rattle.sums.proofs.plus.Given as goal

abbrev pub invariant-loop-i : goal.invariant-loop-i
invariant-loop-i l = (length l.sum.grams ≡ length rows)
    × Filled (λ n. grams_at l.a.grams n +ℤ grams_at l.b.grams n) l.i l.sum.grams

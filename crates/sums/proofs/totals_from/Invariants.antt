-- `sums::totals_from` meets its contract: the loop fills the table number by number. Assumes nothing.
use mathlib.Core.Path.{◌≡◌}
use lib.ListN.{length}
use Rattle.outputs.specs.Names.{totals}
use Rattle.outputs.specs.Grams.{total_at}
use Rattle.outputs.proofs.ByNumber.{Filled}
use Rattle.sums.proofs.totals_from.Given as goal

abbrev pub invariant-loop-t : goal.invariant-loop-t
invariant-loop-t l = (length l.r.grams ≡ length totals) × Filled (total_at l.f.grams) l.t l.r.grams

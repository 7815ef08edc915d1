-- `listing_lines::put_lines` meets its contract: what is still to be written is the lines of the numbers that are
-- left. Assumes nothing.
use lib.ListN.{drop}
use Rattle.base.proofs.ToCome.{ToCome}
use Rattle.listing_lines.specs.Numbered.{numbered}
use Rattle.listing_lines.proofs.put_lines.Given as goal

abbrev pub invariant-loop-n : goal.invariant-loop-n
invariant-loop-n l =
    ToCome l.initial.out l.at (numbered l.owner l.middles l.starts l.grams l.lines) l.out
    (numbered l.owner l.middles l.starts l.grams (drop l.n-index l.lines)) l.next

-- `lines_cuts::lines::put_lines` meets its contract: what is still to be written is the records of the numbers that are
-- left. Assumes nothing.
use lib.ListN.{drop}
use Rattle.base.proofs.ToCome.{ToCome}
use Rattle.lines_cuts.specs.Numbered.{numbered}
use Rattle.lines_cuts.proofs.lines.put_lines.Given as goal

abbrev pub invariant-loop-n : goal.invariant-loop-n
invariant-loop-n l =
    ToCome l.initial.out l.at (numbered l.owner l.middles l.starts l.cut_off l.divisor l.lines) l.out
    (numbered l.owner l.middles l.starts l.cut_off l.divisor (drop l.n-index l.lines)) l.next

-- `mend_writes::put_mark` meets its contract: the mark's change, or nothing. Assumes nothing.
use lib.ListN.{length}
use Rattle.mend_writes.proofs.Puts.{mark-fits, put_steps}
use borrow.Author.Rules.{rules}
use Rattle.mend_writes.proofs.put_mark.Goals as goal

pub bounds-list-0 : goal.bounds-list-0
bounds-list-0 c = let h = mark-fits (length c.args.list.now) c.args.marked c.if-marked.true c.requires in search rules

pub bounds-list-1 : goal.bounds-list-1
bounds-list-1 c = let h = mark-fits (length c.args.list.now) c.args.marked c.if-marked.true c.requires in search rules

pub returns-then-marked : goal.returns-then-marked
returns-then-marked c = search (rules, put_steps)

pub returns : goal.returns
returns c = search (rules, put_steps)

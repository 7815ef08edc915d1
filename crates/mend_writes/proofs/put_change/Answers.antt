-- `mend_writes::put_change` meets its contract: a kind and a place, or nothing. Assumes nothing.
use native.Mathlib.Omega.{arith}
use lib.ListN.{length, length-set}
use Rattle.mend_writes.proofs.Puts.{change_fits, put_steps}
use borrow.Author.Rules.{rules}
use Rattle.mend_writes.proofs.put_change.Goals as goal

pub offset_bounds-list-at : goal.offset_bounds-list-at
offset_bounds-list-at c =
    let h = change_fits (length c.args.list.now) c.args.at c.args.place c.args.bare c.if-bare.true c.requires in
    search rules

pub bounds-list-at : goal.bounds-list-at
bounds-list-at c =
    let h = change_fits (length c.args.list.now) c.args.at c.args.place c.args.bare c.if-bare.true c.requires in
    search rules

pub offset_bounds-list-at-then-bare : goal.offset_bounds-list-at-then-bare
offset_bounds-list-at-then-bare c =
    let h = change_fits (length c.args.list.now) c.args.at c.args.place c.args.bare c.if-bare.true c.requires in
    search rules

pub bounds-list-at-then-bare : goal.bounds-list-at-then-bare
bounds-list-at-then-bare c = simp length-set
    (omega (arith, change_fits (length c.args.list.now) c.args.at c.args.place c.args.bare c.if-bare.true c.requires))

pub returns-then-bare : goal.returns-then-bare
returns-then-bare c = search (rules, put_steps)

pub returns : goal.returns
returns c = search (rules, put_steps)

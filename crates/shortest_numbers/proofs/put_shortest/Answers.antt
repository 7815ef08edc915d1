-- A digit that is no 0 ends the loop; the rest by the lemmas in `Steps`. Assumes nothing.
use native.Mathlib.Omega.{arith}
use borrow.Author.Rules.{rules}
use Rattle.shortest_numbers.proofs.Steps.{pointed-room, pointed-put, zero_steps}
use Rattle.shortest_numbers.proofs.put_shortest.Goals as goal

pub put_pointed-requires : goal.put_pointed-requires
put_pointed-requires c =
    let l = c.loop-left in
    pointed-room l.left l.m _ l.invariant.2 c.args.out.now l.out l.invariant.0 c.args.at c.requires (omega arith)
    c.if-m-ne0.true _ (omega arith)

pub returns-then-m-ne0 : goal.returns-then-m-ne0
returns-then-m-ne0 c =
    let l = c.loop-left in
    pointed-put l.left l.m _ l.invariant.2 c.args.out.now l.out l.invariant.0 c.args.at (omega arith) c.if-m-ne0.true _
    (omega arith) c.put_pointed.ensures

pub loop-left-preserved : goal.loop-left-preserved
loop-left-preserved c = search (rules, zero_steps)

pub put_whole-requires : goal.put_whole-requires
put_whole-requires c = search (rules, zero_steps)

pub returns : goal.returns
returns c = search (rules, zero_steps)

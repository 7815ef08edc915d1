-- The middle of the record's number stands in the table. Assumes nothing.
use Prim.Native.Nat.{◌<◌}
use native.Mathlib.Omega.{arith}
use lib.ListN.{length, get_or}
use Rattle.base.specs.Part.{part}
use Rattle.line_parts.proofs.Middles.{stands}
use Rattle.lines_cuts.proofs.LineByLine.{line-room, line-put, all-put}
use borrow.Author.Rules.{rules}
use Rattle.lines_cuts.proofs.lines.put_lines.Goals as goal

pub bounds-starts-n : goal.bounds-starts-n
bounds-starts-n c =
    let s = stands c.requires.0.tabled c.loop-n.n-index c.loop-n-test.true in search rules

pub bounds-starts-n-in-loop-n : goal.bounds-starts-n-in-loop-n
bounds-starts-n-in-loop-n c =
    let s = stands c.requires.0.tabled c.loop-n.n-index c.loop-n-test.true in search rules

pub slice_bounds-put_line-count : goal.slice_bounds-put_line-count
slice_bounds-put_line-count c =
    let s = stands c.requires.0.tabled c.loop-n.n-index c.loop-n-test.true in search rules

pub slice_bounds-put_line-start : goal.slice_bounds-put_line-start
slice_bounds-put_line-start c =
    let s = stands c.requires.0.tabled c.loop-n.n-index c.loop-n-test.true in search rules

pub slice_bounds-put_line-end : goal.slice_bounds-put_line-end
slice_bounds-put_line-end c =
    let s = stands c.requires.0.tabled c.loop-n.n-index c.loop-n-test.true in search rules

pub bounds-cut_off-n : goal.bounds-cut_off-n
bounds-cut_off-n c =
    let s = stands c.requires.0.tabled c.loop-n.n-index c.loop-n-test.true in search rules

pub bounds-divisor-n : goal.bounds-divisor-n
bounds-divisor-n c =
    let known = c.requires.0 in
    let s = stands known.tabled c.loop-n.n-index c.loop-n-test.true in
    let below : get_or c.args.lines.now c.loop-n.n-index 0 < length c.args.divisor.now =
    omega (arith, s.a-number, known.as_many)
    in search rules

pub put_line-next-requires : goal.put_line-next-requires
unfolding part
put_line-next-requires c =
    (c.requires.1, line-room _ _ _ _ _ _ _ c.loop-n-test.true c.loop-n.invariant c.requires.2)

pub loop-n-preserved : goal.loop-n-preserved
unfolding part
loop-n-preserved c =
    line-put _ _ _ _ _ _ _ c.loop-n-test.true c.loop-n.invariant c.put_line-next.ensures

pub returns : goal.returns
returns c = all-put _ _ _ _ _ _ _ c.loop-n-test.false c.loop-n.invariant

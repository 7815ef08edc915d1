-- The middle of the line's number stands in the table. Assumes nothing.
use lib.IntN.{pos}
use mathlib.Core.Path.{◌≡◌}
use native.Mathlib.Omega.{arith}
use lib.ListN.{get_or, length-take, length-drop}
use mir.Syntax.{w64}
use mir.Val.{to_z, of_z}
use mir.Facts.{to_z-of_z}
use Rattle.base.specs.Part.{part}
use Rattle.base.proofs.ToCome.{begun}
use Rattle.line_parts.proofs.Middles.{stands}
use Rattle.listing_lines.proofs.LineByLine.{line-room, line-put, all-put}
use borrow.Author.Rules.{rules}
use Rattle.listing_lines.proofs.put_lines.Goals as goal

pub bounds-starts-n : goal.bounds-starts-n
bounds-starts-n c = let s = stands c.requires.0 c.loop-n.n-index c.loop-n-test.true in search rules

pub bounds-starts-n-in-loop-n : goal.bounds-starts-n-in-loop-n
bounds-starts-n-in-loop-n c = let s = stands c.requires.0 c.loop-n.n-index c.loop-n-test.true in search rules

pub slice_bounds-put_line-count : goal.slice_bounds-put_line-count
slice_bounds-put_line-count c = let s = stands c.requires.0 c.loop-n.n-index c.loop-n-test.true in search rules

pub slice_bounds-put_line-start : goal.slice_bounds-put_line-start
slice_bounds-put_line-start c = let s = stands c.requires.0 c.loop-n.n-index c.loop-n-test.true in search rules

pub slice_bounds-put_line-end : goal.slice_bounds-put_line-end
slice_bounds-put_line-end c = let s = stands c.requires.0 c.loop-n.n-index c.loop-n-test.true in search rules

pub bounds-grams-n : goal.bounds-grams-n
bounds-grams-n c = let s = stands c.requires.0 c.loop-n.n-index c.loop-n-test.true in search rules

pub put_line-next-requires : goal.put_line-next-requires
unfolding part
put_line-next-requires c =
    let s = stands c.requires.0 c.loop-n.n-index c.loop-n-test.true in
    let x = get_or c.args.grams.now (get_or c.args.lines.now c.loop-n.n-index 0) (pos 0) in
    let g : to_z w64 (of_z w64 x) ≡ x = to_z-of_z {w = w64} (search rules) in (
      c.requires.1,
      simp (length-take, length-drop) (omega arith),
      line-room _ _ _ _ _ _ c.loop-n-test.true _ g c.loop-n.invariant c.requires.2,
    )

pub loop-n-preserved : goal.loop-n-preserved
unfolding part
loop-n-preserved c =
    let x = get_or c.args.grams.now (get_or c.args.lines.now c.loop-n.n-index 0) (pos 0) in
    let e : to_z w64 (of_z w64 x) ≡ x = to_z-of_z {w = w64} (search rules) in
    line-put _ _ _ _ _ _ c.loop-n-test.true _ e c.loop-n.invariant c.put_line-next.ensures

pub returns : goal.returns
returns c = all-put _ _ _ _ _ _ c.loop-n-test.false c.loop-n.invariant

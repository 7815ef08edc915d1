-- `lines_cuts::lines::put_line` meets its contract, by its calls, one after the other; where the divisor is 0 nothing
-- is to be written. Assumes nothing.
use native.Mathlib.Omega.{arith}
use Rattle.base.proofs.Writes.{wrote_as, wrote-append}
use Rattle.lines_cuts.proofs.LineByLine.{line-is, together-length, no_line}
use borrow.Author.Rules.{rules}
use Rattle.lines_cuts.proofs.lines.put_line.Goals as goal

pub returns-then-divisor-eq0 : goal.returns-then-divisor-eq0
returns-then-divisor-eq0 c = search (rules, no_line)

-- the length of a record, part by part
pub put_text-a-requires : goal.put_text-a-requires
put_text-a-requires c =
    let a = c.args in
    let long = together-length a.owner.now a.middle.now a.cut_off a.divisor c.if-divisor-eq0.false in
    (omega arith, omega arith)

pub put-b-requires : goal.put-b-requires
put-b-requires c =
    let a = c.args in
    let long = together-length a.owner.now a.middle.now a.cut_off a.divisor c.if-divisor-eq0.false in
    omega arith

pub put_numbers-requires : goal.put_numbers-requires
put_numbers-requires c =
    let a = c.args in
    let long = together-length a.owner.now a.middle.now a.cut_off a.divisor c.if-divisor-eq0.false in
    omega arith

pub returns : goal.returns
returns c =
    wrote_as (line-is _ _ _ _ c.if-divisor-eq0.false)
    (wrote-append (wrote-append c.put_text-a.ensures c.put-b.ensures) c.put_numbers.ensures)

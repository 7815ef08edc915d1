-- `lines_cuts::lines::put_numbers` meets its contract, by its calls, one after the other. Assumes nothing.
use native.Mathlib.Omega.{arith}
use Rattle.base.proofs.Writes.{wrote_as, wrote-append}
use Rattle.lines_cuts.proofs.LineByLine.{numbers-are, numbers-length}
use Rattle.lines_cuts.proofs.lines.put_numbers.Goals as goal

pub put_whole-a-requires : goal.put_whole-a-requires
put_whole-a-requires c = omega (arith, numbers-length c.args.cut_off c.args.divisor)

pub put_byte-b-requires : goal.put_byte-b-requires
put_byte-b-requires c = omega (arith, numbers-length c.args.cut_off c.args.divisor)

pub put_whole-c-requires : goal.put_whole-c-requires
put_whole-c-requires c = omega (arith, numbers-length c.args.cut_off c.args.divisor)

pub put-requires : goal.put-requires
put-requires c = omega (arith, numbers-length c.args.cut_off c.args.divisor)

pub returns : goal.returns
returns c =
    wrote_as (numbers-are _ _)
    (wrote-append (wrote-append (wrote-append c.put_whole-a.ensures c.put_byte-b.ensures) c.put_whole-c.ensures)
    c.put.ensures)

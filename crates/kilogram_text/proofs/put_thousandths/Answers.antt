-- `kilogram_text::put_thousandths` meets its contract, by its three calls, one after the other.
-- Assumes nothing.
use native.Mathlib.Omega.{arith}
use Rattle.base.proofs.Writes.{wrote_as, wrote-append}
use Rattle.kilogram_text.proofs.Lengths.{thousandths-is, thousandths-length}
use Rattle.kilogram_text.proofs.put_thousandths.Goals as goal

pub put_whole-a-requires : goal.put_whole-a-requires
put_whole-a-requires c = omega (arith, thousandths-length c.args.n)

pub put_byte-b-requires : goal.put_byte-b-requires
put_byte-b-requires c = omega (arith, thousandths-length c.args.n)

pub put_lowest-requires : goal.put_lowest-requires
put_lowest-requires c = omega (arith, thousandths-length c.args.n)

pub returns : goal.returns
returns c =
    wrote_as (thousandths-is c.args.n)
    (wrote-append (wrote-append c.put_whole-a.ensures c.put_byte-b.ensures) c.put_lowest.ensures)

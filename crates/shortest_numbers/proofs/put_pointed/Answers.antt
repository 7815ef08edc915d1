-- `shortest_numbers::put_pointed` meets its contract, by its calls, one after the other. Assumes nothing.
use native.Mathlib.Omega.{arith}
use Rattle.base.proofs.Writes.{wrote_as, wrote-append}
use Rattle.shortest_numbers.proofs.Steps.{pointed-is, parts-length}
use Rattle.shortest_numbers.proofs.put_pointed.Goals as goal

-- how long it is, by the whole part that was worked out

pub put_whole-a-requires : goal.put_whole-a-requires
put_whole-a-requires c = omega (arith, parts-length _ _ _ c.whole_part.ensures)

pub put_byte-b-requires : goal.put_byte-b-requires
put_byte-b-requires c = omega (arith, parts-length _ _ _ c.whole_part.ensures)

pub put_lowest-requires : goal.put_lowest-requires
put_lowest-requires c = omega (arith, parts-length _ _ _ c.whole_part.ensures)

pub returns : goal.returns
returns c =
    wrote_as (pointed-is _ _ _ c.whole_part.ensures)
    (wrote-append (wrote-append c.put_whole-a.ensures c.put_byte-b.ensures) c.put_lowest.ensures)

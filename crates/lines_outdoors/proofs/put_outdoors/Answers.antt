-- `lines_outdoors::put_outdoors` meets its contract, by its calls, one after the other. Assumes nothing.
use Rattle.base.proofs.Writes.{wrote_as, wrote-append}
use Rattle.lines_outdoors.proofs.LineSteps.{outdoors-is}
use Rattle.lines_outdoors.proofs.put_outdoors.Goals as goal

pub returns : goal.returns
returns c =
    let days = wrote-append c.put_number-a.ensures.wrote c.put_number-b.ensures.wrote in
    let hours = wrote-append (wrote-append days c.put_number-c.ensures.wrote) c.put_number-d.ensures.wrote in
    wrote_as (outdoors-is _) (wrote-append hours c.put.ensures)

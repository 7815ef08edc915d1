-- `decimal::put_three` meets its contract: the three digits, one after the other. Assumes nothing.
use Rattle.base.proofs.Writes.{wrote_as, wrote-append}
use Rattle.decimal.proofs.Widths.{three-are}
use Rattle.decimal.proofs.put_three.Goals as goal

pub returns : goal.returns
returns c =
    wrote_as (three-are c.args.n c.requires.0)
    (wrote-append (wrote-append c.put_byte-a.ensures c.put_byte-b.ensures) c.put_byte.ensures)

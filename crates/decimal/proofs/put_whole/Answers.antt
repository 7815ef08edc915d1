-- `decimal::put_whole` meets its contract: it writes as many of the lowest digits as the number has.
-- Assumes nothing.
use native.Mathlib.Omega.{arith}
use Rattle.base.proofs.Writes.{wrote_as}
use Rattle.decimal.proofs.Widths.{whole_is, whole_length}
use Rattle.decimal.proofs.put_whole.Goals as goal

pub put_lowest-requires : goal.put_lowest-requires
put_lowest-requires c = omega (arith, whole_length c.args.n, c.digits.ensures)

pub returns : goal.returns
returns c = wrote_as (whole_is c.args.n c.digits.result c.digits.ensures) c.put_lowest.ensures

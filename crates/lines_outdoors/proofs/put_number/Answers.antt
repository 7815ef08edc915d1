-- `lines_outdoors::put_number` meets its contract: the number has at most so many digits. Assumes nothing.
use native.Mathlib.Omega.{arith}
use Rattle.base.proofs.Writes.{wrote-append}
use Rattle.decimal.proofs.Widths.{whole-text}
use borrow.Author.Rules.{rules}
use Rattle.lines_outdoors.proofs.put_number.Goals as goal

pub put_whole-requires : goal.put_whole-requires
put_whole-requires c = omega (arith, whole-text c.args.n (search rules))

pub returns : goal.returns
returns c =
    record {
      wrote = wrote-append c.put-a.ensures c.put_whole.ensures;
      short = omega (arith, whole-text c.args.n (search rules));
    }

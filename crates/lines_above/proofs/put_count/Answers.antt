-- `lines_above::put_count` meets its contract: the count has at most so many digits. Assumes nothing.
use Prim.Native.Nat.{◌≤◌}
use native.Mathlib.Omega.{arith}
use lib.ListN.{length}
use Rattle.base.proofs.Writes.{wrote-append}
use Rattle.decimal.specs.Writing.{whole_of}
use Rattle.decimal.specs.Rooms.{digits_most}
use Rattle.decimal.proofs.Widths.{whole-text}
use borrow.Author.Rules.{rules}
use Rattle.lines_above.proofs.put_count.Goals as goal

pub put_whole-b-requires : goal.put_whole-b-requires
put_whole-b-requires c =
    let short : length (whole_of c.args.count) ≤ digits_most = whole-text c.args.count (search rules) in omega arith

pub put-requires : goal.put-requires
put-requires c =
    let short : length (whole_of c.args.count) ≤ digits_most = whole-text c.args.count (search rules) in omega arith

pub returns : goal.returns
returns c =
    let short : length (whole_of c.args.count) ≤ digits_most = whole-text c.args.count (search rules) in (
      wrote-append (wrote-append c.put-a.ensures c.put_whole-b.ensures) c.put.ensures,
      omega arith,
    )

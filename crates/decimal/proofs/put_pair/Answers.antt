-- `decimal::put_pair` meets its contract, by its calls, one after the other. Assumes nothing.
use Prim.Native.Nat.{◌≤◌}
use native.Mathlib.Omega.{arith}
use lib.ListN.{length}
use Rattle.base.proofs.Writes.{wrote-append}
use Rattle.decimal.specs.Writing.{whole_of}
use Rattle.decimal.specs.Rooms.{digits_most}
use Rattle.decimal.proofs.Widths.{whole-text}
use borrow.Author.Rules.{rules}
use Rattle.decimal.proofs.put_pair.Goals as goal

pub put_whole-a-requires : goal.put_whole-a-requires
put_whole-a-requires c =
    let first : length (whole_of c.args.m) ≤ digits_most = whole-text c.args.m (search rules) in omega arith

pub put_byte-b-requires : goal.put_byte-b-requires
put_byte-b-requires c =
    let first : length (whole_of c.args.m) ≤ digits_most = whole-text c.args.m (search rules) in omega arith

pub put_whole-c-requires : goal.put_whole-c-requires
put_whole-c-requires c =
    let first : length (whole_of c.args.m) ≤ digits_most = whole-text c.args.m (search rules) in
    let second : length (whole_of c.args.n) ≤ digits_most = whole-text c.args.n (search rules) in
    omega arith

pub put-requires : goal.put-requires
put-requires c =
    let first : length (whole_of c.args.m) ≤ digits_most = whole-text c.args.m (search rules) in
    let second : length (whole_of c.args.n) ≤ digits_most = whole-text c.args.n (search rules) in
    omega arith

pub returns : goal.returns
returns c =
    let first : length (whole_of c.args.m) ≤ digits_most = whole-text c.args.m (search rules) in
    let second : length (whole_of c.args.n) ≤ digits_most = whole-text c.args.n (search rules) in (
      wrote-append (wrote-append (wrote-append c.put_whole-a.ensures c.put_byte-b.ensures) c.put_whole-c.ensures)
          c.put.ensures,
      omega arith,
    )

-- `lines_reasons::put_number` meets its contract: a number has at most so many digits. Assumes nothing.
use native.Mathlib.Omega.{arith}
use Rattle.decimal.proofs.Widths.{whole-text}
use borrow.Author.Rules.{rules}
use Rattle.lines_reasons.proofs.put_number.Goals as goal

pub put_whole-requires : goal.put_whole-requires
put_whole-requires c = omega (arith, whole-text c.args.n (search rules))

pub returns : goal.returns
returns c = let w = c in
    let s = c in
    (w.put_whole.ensures, omega (arith, w.put_whole.ensures.past, whole-text s.args.n (search rules)))

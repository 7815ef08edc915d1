-- `message_lines::Line::add_number` is safe: a number of 64 bits has no more digits than there is room for.
-- Assumes nothing.
use Rattle.std.proofs.Common.{rules, arith}
use Rattle.decimal.proofs.Widths.{whole-text}
use Rattle.message_lines.proofs.Line.add_number.Goals as goal

pub put_whole-k-requires : goal.put_whole-k-requires
put_whole-k-requires c = omega (arith, whole-text c.args.n (search rules))

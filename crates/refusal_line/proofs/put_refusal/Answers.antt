-- `refusal_line::put_refusal` meets its contract, by its calls, one after the other. Assumes nothing.
use Rattle.base.proofs.Writes.{wrote-append}
use Rattle.refusal_line.specs.Lines.{refusal_line}
use native.Mathlib.Omega.{arith}
use Rattle.refusal_line.proofs.put_refusal.Goals as goal

pub returns : goal.returns
unfolding refusal_line
returns c =
    (wrote-append c.put-a.ensures c.put_pair.ensures.0, omega (arith, c.put-a.ensures, c.put_pair.ensures.1))

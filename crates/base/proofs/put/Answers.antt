-- `base::put` meets its contract: what a copy into a part of the buffer leaves is a run of stores. Assumes nothing.
use native.Mathlib.Omega.{arith}
use Rattle.base.proofs.Writes.{copied}
use Rattle.base.proofs.put.Goals as goal

pub returns : goal.returns
returns c = record {
  bytes = copied c.args.out.now c.args.at c.args.src.now _ _ c.copy_from_slice.ensures.after (omega arith) c.requires;
  past = omega arith;
}

-- `line_parts::owners::put_owner` meets its contract: the label's field, a comma, the path of the kind. Assumes
-- nothing.
use mathlib.Core.Path.{ap}
use native.Mathlib.Omega.{arith}
use lib.ListN.{length}
use Rattle.base.proofs.Writes.{wrote_as, wrote-append}
use Rattle.line_parts.proofs.Paths.{path-short, owner_is}
use Rattle.line_parts.proofs.owners.put_owner.Goals as goal

pub put-requires : goal.put-requires
put-requires c = omega (arith, ap length c.path_of.ensures, path-short c.args.kind)

pub returns : goal.returns
returns c = (
  wrote_as (owner_is _ _ c.path_of.ensures)
      (wrote-append (wrote-append c.put_label-a.ensures.0 c.put_byte-b.ensures) c.put.ensures),
  omega (arith, ap length c.path_of.ensures, path-short c.args.kind, c.put.ensures.past),
)

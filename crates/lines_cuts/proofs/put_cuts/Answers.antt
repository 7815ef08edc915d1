-- `lines_cuts::put_cuts` meets its contract: what is lent is the owner of the herd's records, the table of middles and
-- every name's number. Assumes nothing.
use mathlib.Core.Path.{◌≡◌, ap, ◌∙◌}
use native.Mathlib.Omega.{arith}
use lib.ListN.{length}
use Rattle.base.specs.Text.{bytes}
use Rattle.base.proofs.Writes.{wrote_as, part-is}
use Rattle.farm.specs.Labels.{text}
use Rattle.line_parts.specs.Paths.{path_of}
use Rattle.line_parts.specs.Owners.{owner_of}
use Rattle.lines_cuts.proofs.AsListed.{cuts-known, cuts_are}
use borrow.Author.Rules.{rules}
use Rattle.lines_cuts.proofs.put_cuts.Goals as goal

-- what is lent is the owner, which is short
pub put_lines-requires : goal.put_lines-requires
put_lines-requires c =
    let owner_is : c.part_of.result.now ≡ owner_of (text c.args.label) (bytes (path_of c.args.kind)) =
    c.part_of.ensures ∙ part-is c.put_owner-n.ensures.0 (search rules)
    in (
      cuts-known (search rules) (search rules),
      omega (arith, ap length owner_is, c.put_owner-n.ensures.0.past, c.put_owner-n.ensures.1),
      omega (arith, ap length (cuts_are c.args.label c.args.kind c.args.c owner_is), c.requires),
    )

pub returns : goal.returns
returns c =
    let owner_is : c.part_of.result.now ≡ owner_of (text c.args.label) (bytes (path_of c.args.kind)) =
    c.part_of.ensures ∙ part-is c.put_owner-n.ensures.0 (search rules)
    in
    wrote_as (cuts_are c.args.label c.args.kind c.args.c owner_is) c.put_lines.ensures

-- `listing::put_herd_lines` meets its contract: what is lent is the owner of the herd's lines, the table of middles and
-- the kind's lines. Assumes nothing.
use mathlib.Core.Path.{◌≡◌, ap, ◌∙◌}
use native.Mathlib.Omega.{arith}
use lib.ListN.{length}
use Rattle.base.specs.Text.{bytes}
use Rattle.base.proofs.Writes.{wrote_as, part-is}
use Rattle.farm.specs.Labels.{text}
use Rattle.outputs.specs.Names.{rows}
use Rattle.line_parts.specs.Paths.{path_of}
use Rattle.line_parts.specs.Owners.{owner_of}
use Rattle.listing.proofs.KindLines.{lines-run}
use Rattle.listing.proofs.AsListed.{herd-known, herd-is}
use borrow.Author.Rules.{rules}
use Rattle.listing.proofs.put_herd_lines.Goals as goal

-- what is lent is the owner, which is short, and the kind's lines in their table
pub put_lines-requires : goal.put_lines-requires
put_lines-requires c =
    let owner_is : c.part_of.result.now ≡ owner_of (text c.args.label) (bytes (path_of c.args.kind)) =
    c.part_of.ensures ∙ part-is c.put_owner-n.ensures.0 (search rules)
    in
    let run = lines-run c.args.kind c.list_of-k.ensures.0 c.list_of-k.ensures.1 in
    let grams-long : length c.args.f.grams ≡ length rows = search rules in (
      herd-known c.args.kind grams-long run.part-is,
      omega (arith, ap length owner_is, c.put_owner-n.ensures.0.past, c.put_owner-n.ensures.1),
      omega (arith, ap length (herd-is c.args.label c.args.kind c.args.f owner_is run.part-is), c.requires),
    )

pub returns : goal.returns
returns c =
    let owner_is : c.part_of.result.now ≡ owner_of (text c.args.label) (bytes (path_of c.args.kind)) =
    c.part_of.ensures ∙ part-is c.put_owner-n.ensures.0 (search rules)
    in
    let run = lines-run c.args.kind c.list_of-k.ensures.0 c.list_of-k.ensures.1 in
    wrote_as (herd-is c.args.label c.args.kind c.args.f owner_is run.part-is) c.put_lines.ensures

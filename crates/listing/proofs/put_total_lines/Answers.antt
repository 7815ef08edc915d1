-- `listing::put_total_lines` meets its contract: what is lent is the table of the totals' middles and their lines.
-- Assumes nothing.
use Rattle.base.proofs.Writes.{wrote_as}
use Rattle.listing.proofs.AsListed.{totals-known, totals-are}
use borrow.Author.Rules.{rules}
use Rattle.listing.proofs.put_total_lines.Goals as goal

pub put_lines-requires : goal.put_lines-requires
put_lines-requires c = (totals-known (search rules), search rules, rw (totals-are _) (search rules))

pub returns : goal.returns
returns c = wrote_as (totals-are _) c.put_lines.ensures

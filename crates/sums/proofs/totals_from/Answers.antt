-- `sums::totals_from` meets its contract: each total is the one of its number. Assumes nothing.
use mathlib.Core.Path.{◌∙◌}
use lib.ListN.{length}
use Rattle.cut_division.proofs.Signed.{back-mag}
use Rattle.outputs.specs.Names.{totals}
use Rattle.outputs.proofs.ByNumber.{fill_none, fill_one, fill_all}
use borrow.Author.Rules.{rules}
use Rattle.sums.proofs.totals_from.Goals as goal

pub loop-t-init : goal.loop-t-init
loop-t-init c = (search rules, fill_none _ _)

pub loop-t-preserved : goal.loop-t-preserved
loop-t-preserved c = (
  search rules,
  fill_one _ c.loop-t.invariant.1 (search rules) (back-mag c.total.result c.total.type_inv ∙ c.total.ensures),
)

pub returns : goal.returns
returns c = fill_all _ (length totals) c.loop-t.invariant.1 (search rules) c.loop-t.invariant.0

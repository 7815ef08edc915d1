-- `pasture::roughage_into_grazing`: its portions are those of its time on pasture. Assumes nothing.
use borrow.Author.Rules.{rules}
use Rattle.pasture.proofs.Into.{roughage_steps}
use Rattle.pasture.proofs.roughage_into_grazing.Goals as goal

pub returns : goal.returns
returns c = search (rules, roughage_steps)

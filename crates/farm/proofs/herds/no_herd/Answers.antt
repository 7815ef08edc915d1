-- `farm::herds::no_herd` meets its contract: a label that says nothing, and slots that say nothing. Assumes nothing.
use borrow.Author.Rules.{rules}
use Rattle.farm.proofs.Empty.{empty_steps}
use Rattle.farm.proofs.herds.no_herd.Goals as goal

pub returns : goal.returns
returns c = search (rules, empty_steps)

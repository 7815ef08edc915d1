-- `farm::herds::no_farm` meets its contract: herds that say nothing, of which none counts. Assumes nothing.
use borrow.Author.Rules.{rules}
use Rattle.farm.proofs.Empty.{empty_steps}
use Rattle.farm.proofs.herds.no_farm.Goals as goal

pub returns : goal.returns
returns c = search (rules, empty_steps)

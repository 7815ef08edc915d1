-- `grazer_sections::cattle_sections` meets its contract: their rates are those of 2.35 or 2.20. Assumes nothing.
use borrow.Author.Rules.{rules}
use Rattle.herd.proofs.Herds.{cattle_steps}
use Rattle.grazer_sections.proofs.cattle_sections.Goals as goal

pub outdoor_from-requires : goal.outdoor_from-requires
outdoor_from-requires c = search (rules, cattle_steps)

pub returns : goal.returns
returns c = search (rules, cattle_steps)

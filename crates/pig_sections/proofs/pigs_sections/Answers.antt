-- `pig_sections::pigs_sections` meets its contract, from what they excrete. Assumes nothing.
use borrow.Author.Rules.{rules}
use Rattle.herd.proofs.Herds.{is-pigs}
use Rattle.pig_sections.proofs.pigs_sections.Goals as goal

pub returns : goal.returns
returns c = search (rules, is-pigs)

-- `grazer_sections::roughage_sections` meets its contract: what is entered, or the standard, is within its range.
-- Assumes nothing.
use borrow.Author.Rules.{rules}
use Rattle.herd.proofs.Herds.{roughage_steps}
use Rattle.grazer_sections.proofs.roughage_sections.Goals as goal

pub n_excretion-requires : goal.n_excretion-requires
n_excretion-requires c = search (rules, roughage_steps)

pub roughage_from-requires : goal.roughage_from-requires
roughage_from-requires c = search (rules, roughage_steps)

pub returns : goal.returns
returns c = search (rules, roughage_steps)

-- `pig_sections::pigs_from` meets its contract, section by section: all that is excreted indoors goes into the house.
-- Assumes nothing.
use borrow.Author.Rules.{rules}
use Rattle.herd.proofs.Herds.{pigs_from_steps}
use Rattle.pig_sections.proofs.pigs_from.Goals as goal

pub overflow_sub-n_in : goal.overflow_sub-n_in
overflow_sub-n_in c = search (rules, pigs_from_steps)

pub overflow_sub-tan_in : goal.overflow_sub-tan_in
overflow_sub-tan_in c = search (rules, pigs_from_steps)

pub in_pig_house-house-requires : goal.in_pig_house-house-requires
in_pig_house-house-requires c = search (rules, pigs_from_steps)

pub nx_ox-requires : goal.nx_ox-requires
nx_ox-requires c = search (rules, pigs_from_steps, c.excreted-e.ensures, c.pigs_grazing-g.ensures)

pub returns : goal.returns
returns c = search (
  rules,
  pigs_from_steps,
  c.excreted-e.ensures,
  c.pigs_grazing-g.ensures,
  c.in_pig_house-house.ensures,
  c.no_yard.ensures,
  c.nx_ox.ensures,
)

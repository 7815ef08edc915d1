-- `grazer_sections::roughage_from` meets its contract, section by section. Assumes nothing.
use borrow.Author.Rules.{rules}
use Rattle.herd.proofs.Herds.{roughage_from_steps}
use Rattle.grazer_sections.proofs.roughage_from.Goals as goal

pub overflow_sub-n_in : goal.overflow_sub-n_in
overflow_sub-n_in c = search (rules, roughage_from_steps)

pub overflow_sub-tan_in : goal.overflow_sub-tan_in
overflow_sub-tan_in c = search (rules, roughage_from_steps)

pub in_housing-requires : goal.in_housing-requires
in_housing-requires c = search (rules, roughage_from_steps)

pub returns : goal.returns
returns c = search (
  rules,
  roughage_from_steps,
  c.excreted-e.ensures,
  c.roughage_grazing-g.ensures,
  c.no_yard.ensures,
  c.in_housing.ensures,
  c.without_pig_house.ensures,
)

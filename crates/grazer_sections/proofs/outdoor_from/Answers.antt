-- `grazer_sections::outdoor_from` meets its contract, section by section: what goes onto yard and pasture is no more
-- than what is excreted. Assumes nothing.
use borrow.Author.Rules.{rules}
use Rattle.herd.proofs.Herds.{outdoor_steps}
use Rattle.grazer_sections.proofs.outdoor_from.Goals as goal

pub overflow_sub-n_in : goal.overflow_sub-n_in
overflow_sub-n_in c = search (rules, outdoor_steps)

pub overflow_sub-n_in-2 : goal.overflow_sub-n_in-2
overflow_sub-n_in-2 c = search (rules, outdoor_steps)

pub overflow_sub-tan_in : goal.overflow_sub-tan_in
overflow_sub-tan_in c = search (rules, outdoor_steps)

pub overflow_sub-tan_in-2 : goal.overflow_sub-tan_in-2
overflow_sub-tan_in-2 c =
    search (rules, outdoor_steps, c.on_yard-y.ensures, c.outdoor_grazing-g.ensures, c.requires)

pub returns : goal.returns
returns c = search (
  rules,
  outdoor_steps,
  c.excreted-e.ensures,
  c.on_yard-y.ensures,
  c.outdoor_grazing-g.ensures,
  c.through_door.ensures,
  c.without_pig_house.ensures,
)

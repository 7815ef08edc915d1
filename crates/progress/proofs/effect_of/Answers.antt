-- `progress::effect_of` meets its contract: what the record says, and whether its label is the herd's own,
-- decide the answer. Assumes nothing.
use borrow.Author.Rules.{rules}
use Rattle.progress.proofs.HerdSteps.{effect_steps}
use Rattle.progress.proofs.effect_of.Goals as goal

pub adding_to-requires : goal.adding_to-requires
adding_to-requires c = search (rules, effect_steps)

pub returns-then-same_label : goal.returns-then-same_label
returns-then-same_label c = search (rules, effect_steps)

pub new_herd-requires : goal.new_herd-requires
new_herd-requires c = search (rules, effect_steps)

pub returns-in-Err : goal.returns-in-Err
returns-in-Err c = search (rules, effect_steps)

pub returns-else-same_label : goal.returns-else-same_label
returns-else-same_label c = search (rules, effect_steps)

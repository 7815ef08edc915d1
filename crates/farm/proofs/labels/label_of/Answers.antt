-- `farm::labels::label_of` meets its contract: the bytes that fit, stored over zeros, are the text with zeros behind
-- it, cut there. Assumes nothing.
use borrow.Author.Rules.{rules}
use Rattle.farm.proofs.LabelSteps.{label_of_steps}
use Rattle.farm.proofs.labels.label_of.Goals as goal

pub put-requires : goal.put-requires
put-requires c = search (rules, label_of_steps)

pub returns : goal.returns
returns c = search (rules, label_of_steps)

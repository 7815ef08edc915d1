-- `lines_reasons::put_numbers` meets its contract: by its parts, one after the other. Assumes nothing.
use Rattle.lines_reasons.proofs.LineSteps.{part_steps}
use borrow.Author.Rules.{rules}
use Rattle.lines_reasons.proofs.put_numbers.Goals as goal

pub returns : goal.returns
returns c = search (rules, part_steps)

-- `lines_reasons::put_why` meets its contract: by the wording. Assumes nothing.
use Rattle.lines_reasons.proofs.LineSteps.{wording_steps}
use borrow.Author.Rules.{rules}
use Rattle.lines_reasons.proofs.put_why.Goals as goal

pub returns-in-Record : goal.returns-in-Record
returns-in-Record c = search (rules, wording_steps)

pub returns-in-Sentence : goal.returns-in-Sentence
returns-in-Sentence c = search (rules, wording_steps)

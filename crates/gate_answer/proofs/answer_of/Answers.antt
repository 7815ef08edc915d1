-- `gate_answer::answer_of` meets its contract. Assumes nothing.
use Rattle.gate_answer.proofs.LineSteps.{line_steps}
use borrow.Author.Rules.{rules}
use Rattle.gate_answer.proofs.answer_of.Goals as goal

pub returns : goal.returns
returns c = search (rules, line_steps)

-- `line_answer::answer_of` meets its contract. Assumes nothing.
use Rattle.line_answer.proofs.Steps.{answer-put}
use borrow.Author.Rules.{rules}
use Rattle.line_answer.proofs.answer_of.Goals as goal

pub returns : goal.returns
returns c = search (rules, answer-put)

-- `step_answer::files::open` meets its contract. Assumes nothing.
use Rattle.step_answer.proofs.Steps.{file_opened}
use borrow.Author.Rules.{rules}
use Rattle.step_answer.proofs.files.open.Goals as goal

pub returns : goal.returns
returns c = search (rules, file_opened)

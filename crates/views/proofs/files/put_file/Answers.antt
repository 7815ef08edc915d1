-- `views::files::put_file` meets its contract. Assumes nothing.
use Rattle.views.proofs.FileSteps.{file_steps}
use borrow.Author.Rules.{rules}
use Rattle.views.proofs.files.put_file.Goals as goal

pub read-answer-requires : goal.read-answer-requires
read-answer-requires c = search (rules, file_steps)

pub has_limit-requires : goal.has_limit-requires
has_limit-requires c = search (rules, file_steps)

pub put_limited-requires : goal.put_limited-requires
put_limited-requires c = search (rules, file_steps, c.in_ok-answer.was)

pub returns-then-has_limit : goal.returns-then-has_limit
returns-then-has_limit c = search (rules, file_steps)

pub put_view-requires : goal.put_view-requires
put_view-requires c = search (rules, file_steps, c.in_ok-answer.was)

pub returns-else-has_limit : goal.returns-else-has_limit
returns-else-has_limit c = search (rules, file_steps)

pub returns-in_err-answer : goal.returns-in_err-answer
returns-in_err-answer c = search (rules, file_steps)

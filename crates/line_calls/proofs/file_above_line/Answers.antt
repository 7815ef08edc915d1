-- `line_calls::file_above_line` meets its contract: a farm that is read passes the record checks. Assumes nothing.
use Rattle.base.proofs.SameRefused.{handed_on}
use Rattle.line_calls.proofs.Steps.{file_steps, file-refused}
use borrow.Author.Rules.{rules}
use Rattle.line_calls.proofs.file_above_line.Goals as goal

pub above-requires : goal.above-requires
above-requires c = search (rules, file_steps)

pub returns : goal.returns
returns c = search (rules, file_steps)

pub returns-in_err-answer : goal.returns-in_err-answer
returns-in_err-answer c =
    rw (handed_on c.from_residual.ensures)
    (file-refused c.args.source c.args.s.now _ c.read-answer.ensures c.args.line _ c.in_err-answer.was)

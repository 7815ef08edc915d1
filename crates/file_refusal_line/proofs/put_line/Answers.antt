-- `file_refusal_line::put_line` meets its contract: the line of the fault's number. Assumes nothing.
use Rattle.file_refusal_line.proofs.Steps.{line_of}
use borrow.Author.Rules.{rules}
use Rattle.file_refusal_line.proofs.put_line.Goals as goal

pub returns : goal.returns
returns c = search (rules, line_of)

-- `spreadsheet::is_marked` meets its contract: the first three bytes are compared with the mark. Assumes nothing.
use Rattle.spreadsheet.proofs.Marks.{marked-is}
use borrow.Author.Rules.{rules}
use Rattle.spreadsheet.proofs.is_marked.Goals as goal

pub returns : goal.returns
returns c = search (rules, marked-is)

-- `spreadsheet::change_count` meets its contract. Assumes nothing.
use Rattle.spreadsheet.proofs.Starts.{crs_few, start_steps}
use borrow.Author.Rules.{rules}
use Rattle.spreadsheet.proofs.change_count.Goals as goal

pub bare_count-requires : goal.bare_count-requires
bare_count-requires c = search (rules, start_steps)

pub overflow_add-result : goal.overflow_add-result
overflow_add-result c = let f = c in
    let h = crs_few _ _ f.is_marked-marked.ensures _ f.text_start.ensures _ c.bare_count.ensures in
    search rules

pub returns : goal.returns
returns c = search (rules, start_steps)

-- `mend::mend` meets its contract: the counts are the lengths of what is to be written, and where both have room it
-- is written. Assumes nothing.
use Rattle.spreadsheet.proofs.Starts.{crs_few, changes-fit}
use Rattle.mend.proofs.Rooms.{mark-fits, mend_steps}
use borrow.Author.Rules.{rules}
use Rattle.mend.proofs.mend.Goals as goal
use Rattle.mend.proofs.mend.Goals.{then-out-length-via-then-out-length}
use Rattle.mend.proofs.mend.Goals.{then-out-length-via-else-out-length+then-list-changes}

pub bare_count-crs-requires : goal.bare_count-crs-requires
bare_count-crs-requires c = search (rules, mend_steps)

pub overflow_sub-length : goal.overflow_sub-length
overflow_sub-length c = search (rules, mend_steps)

pub overflow_add-length : goal.overflow_add-length
overflow_add-length c =
    let h = crs_few _ _ c.is_marked-marked.ensures _ c.text_start-from.ensures _ c.bare_count-crs.ensures in
    search rules

pub overflow_add-changes : goal.overflow_add-changes
overflow_add-changes c =
    let h = crs_few _ _ c.is_marked-marked.ensures _ c.text_start-from.ensures _ c.bare_count-crs.ensures in
    search rules

pub returns-then-out-length : goal.returns-then-out-length
returns-then-out-length c = elim c.then-out-length.branch [
  | then-out-length-via-then-out-length w ↦ search (rules, mend_steps)
  | then-out-length-via-else-out-length+then-list-changes w ↦ search (rules, mend_steps)
]

pub overflow_mul-changes : goal.overflow_mul-changes
overflow_mul-changes c =
    let h = changes-fit _ _ c.is_marked-marked.ensures _ c.text_start-from.ensures _ c.bare_count-crs.ensures _
    c.as_count.ensures.0 in search rules

pub put_text-requires : goal.put_text-requires
put_text-requires c = search (rules, mend_steps)

pub put_mark-at-requires : goal.put_mark-at-requires
put_mark-at-requires c =
    mark-fits _ _ c.is_marked-marked.ensures _ c.text_start-from.ensures _ c.bare_count-crs.ensures _
    c.as_count.ensures.0 c.args.list.now c.if-list-changes.false

pub put_changes-requires : goal.put_changes-requires
put_changes-requires c = search (rules, mend_steps)

pub returns : goal.returns
returns c = search (rules, mend_steps)

-- `mend_print::print_changes_by` is safe: what is printed is a part of the list. Assumes nothing.
use mathlib.Core.Path.{sym}
use lib.Seq.{length-take-le}
use borrow.Author.Rules.{rules}
use Rattle.mend_print.proofs.print_changes_by.Goals as goal

pub slice_bounds-print_list-end-2 : goal.slice_bounds-print_list-end-2
slice_bounds-print_list-end-2 g c = sym (length-take-le _ _ (search rules))

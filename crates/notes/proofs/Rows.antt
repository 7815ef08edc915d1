-- Every herd of the table gets the notes that stand beside it and no other: one computation over the whole table. A
-- record that is refused gets none. Assumes nothing.
use mathlib.Core.List.{[]}
use mathlib.Core.Path.{◌≡◌, refl}
use Rattle.base.specs.Each.{Each}
use Rattle.base.proofs.Each.{each_same}
use Rattle.tables.specs.Standards.{standard_of}
use Rattle.tables.specs.Growth.{exp_num, exp_den, growth_num, growth_den, nearest, k_at, within_day, k_of}
use Rattle.yard.specs.Yard.{days_with_grazing_and_yard, share_lowered}
use Rattle.notes.specs.Notes.{no_notes, notes_of}
use Rattle.notes.specs.Rows.{Row, Right, names_of, told, table}

pub noted : Each Right table
unfolding notes_of standard_of share_lowered days_with_grazing_and_yard k_of within_day k_at nearest growth_num
    growth_den
    exp_num exp_den
noted = each_same told (λ (r : Row). r.notes) table refl

pub none-noted : names_of no_notes ≡ []
none-noted = refl

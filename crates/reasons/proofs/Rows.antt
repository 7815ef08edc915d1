-- Every herd of the table is told what stands beside it: one computation over the whole table. Assumes nothing.
use mathlib.Core.Path.{refl}
use Rattle.base.specs.Each.{Each}
use Rattle.base.proofs.Each.{each_same}
use Rattle.yard.specs.Yard.{days_with_grazing_and_yard}
use Rattle.reasons.specs.Reasons.{reason_of}
use Rattle.reasons.specs.Rows.{Row, Right, line_of, table}

pub told : Each Right table
unfolding reason_of days_with_grazing_and_yard
told = each_same line_of (λ (r : Row). r.told) table refl

-- `csv_reader::Fields::with_field` meets its contract: each of the four places is what `placed` gives.
-- Assumes nothing.
use Rattle.csv_reader.proofs.Fields.with_field.Goals as goal

pub returns : goal.returns
returns c = rw (
  c.placed.ensures,
  c.placed-2.ensures,
  c.placed-3.ensures,
  c.placed-4.ensures,
)

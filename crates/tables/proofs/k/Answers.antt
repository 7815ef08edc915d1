-- `tables::k` meets its contract: antt computes the test of every entry of the code's table. Assumes nothing.
use Rattle.tables.specs.Growth.{exp_num, exp_den, growth_num, growth_den, nearest, k_at}
use Rattle.tables.proofs.Entries.{right, table-right, entry}
use Rattle.tables.proofs.k.Goals as goal

-- the one computed test, `table-right`, is that of the table as the code has it
pub returns : goal.returns
unfolding table-right right k_at nearest growth_num growth_den exp_num exp_den
returns c = search entry

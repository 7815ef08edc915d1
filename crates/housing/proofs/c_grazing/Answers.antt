-- `housing::c_grazing`: the mean of 1 and k, over the hours in housing. Assumes nothing.
use borrow.Author.Rules.{rules}
use Rattle.housing.proofs.InHousing.{growth_steps}
use Rattle.housing.proofs.c_grazing.Goals as goal

pub returns-then-days-hours-lt-YEAR_OF_HOURS : goal.returns-then-days-hours-lt-YEAR_OF_HOURS
returns-then-days-hours-lt-YEAR_OF_HOURS c = search (rules, growth_steps)

-- `pig_amounts::house::in_pig_house`: what is emitted and kept back is no more than what goes in. Assumes nothing.
use borrow.Author.Rules.{rules}
use Rattle.pig_house.proofs.Through.{house_steps}
use Rattle.pig_amounts.proofs.house.in_pig_house.Goals as goal

pub overflow_sub-n_out-2 : goal.overflow_sub-n_out-2
overflow_sub-n_out-2 c = search (rules, house_steps)

pub overflow_sub-tan_out-2 : goal.overflow_sub-tan_out-2
overflow_sub-tan_out-2 c = search (rules, house_steps)

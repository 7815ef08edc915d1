-- The answer is the one that the check picks; an accepted farm's totals are those of the sums of its herds' figures.
-- Assumes nothing.
use borrow.Author.Rules.{rules}
use Rattle.model.proofs.AnswerSteps.{farm_answers}
use Rattle.answers.proofs.farm_answer.Goals as goal

pub sum_of-requires : goal.sum_of-requires
sum_of-requires c = search (rules, farm_answers)

pub totals_from-totals-requires : goal.totals_from-totals-requires
totals_from-totals-requires c = search (rules, farm_answers)

pub total_kilograms_of-requires : goal.total_kilograms_of-requires
total_kilograms_of-requires c = search (rules, farm_answers)

pub totals_from-totals-requires-in-Err : goal.totals_from-totals-requires-in-Err
totals_from-totals-requires-in-Err c = search (rules, farm_answers)

pub total_kilograms_of-requires-in-Err : goal.total_kilograms_of-requires-in-Err
total_kilograms_of-requires-in-Err c = search (rules, farm_answers)

pub returns-in-Ok : goal.returns-in-Ok
returns-in-Ok c = search (rules, farm_answers)

pub returns-in-Err : goal.returns-in-Err
returns-in-Err c = search (rules, farm_answers)

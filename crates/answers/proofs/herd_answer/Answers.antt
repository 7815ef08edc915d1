-- The answer is the one that the check picks; an accepted herd's inputs are sound, as its figures, notes and cuts ask.
-- Assumes nothing.
use borrow.Author.Rules.{rules}
use Rattle.model.proofs.AnswerSteps.{herd_answers}
use Rattle.answers.proofs.herd_answer.Goals as goal

pub figures-figures-requires : goal.figures-figures-requires
figures-figures-requires c = search (rules, herd_answers)

pub kilograms_of-requires : goal.kilograms_of-requires
kilograms_of-requires c = search (rules, herd_answers)

pub notes_of-requires : goal.notes_of-requires
notes_of-requires c = search (rules, herd_answers)

pub cuts_of-requires : goal.cuts_of-requires
cuts_of-requires c = search (rules, herd_answers)

pub kilograms_of-requires-in-Err : goal.kilograms_of-requires-in-Err
kilograms_of-requires-in-Err c = search (rules, herd_answers)

pub returns-in-Ok : goal.returns-in-Ok
returns-in-Ok c = search (rules, herd_answers)

pub returns-in-Err : goal.returns-in-Err
returns-in-Err c = search (rules, herd_answers)

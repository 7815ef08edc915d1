-- `views::herds::put_herd` meets its contract, view by view. Assumes nothing.
use Rattle.views.proofs.HerdSteps.{figures_steps, notes_steps, cuts_steps, why_steps, file_steps}
use borrow.Author.Rules.{rules}
use Rattle.views.proofs.herds.put_herd.Goals as goal

pub put_herd-requires-in-File : goal.put_herd-requires-in-File
put_herd-requires-in-File c = search (rules, file_steps)

pub returns-in-Figures : goal.returns-in-Figures
returns-in-Figures c = search (rules, figures_steps)

pub returns-in-Notes : goal.returns-in-Notes
returns-in-Notes c = search (rules, notes_steps)

pub returns-in-Cuts : goal.returns-in-Cuts
returns-in-Cuts c = search (rules, cuts_steps)

pub returns-in-Reasons : goal.returns-in-Reasons
returns-in-Reasons c = search (rules, why_steps)

pub returns-in-Sentences : goal.returns-in-Sentences
returns-in-Sentences c = search (rules, why_steps)

pub returns-in-File : goal.returns-in-File
returns-in-File c = search (rules, file_steps)

-- `lines_reasons::put_because` meets its contract: by the reason. Assumes nothing.
use Rattle.lines_reasons.proofs.ReasonSteps.{because_steps}
use borrow.Author.Rules.{rules}
use Rattle.lines_reasons.proofs.put_because.Goals as goal

pub returns-in-NoSuchDays : goal.returns-in-NoSuchDays
returns-in-NoSuchDays c = search (rules, because_steps)

pub returns-in-NotAvailable : goal.returns-in-NotAvailable
returns-in-NotAvailable c = search (rules, because_steps)

pub returns-in-AsChosen : goal.returns-in-AsChosen
returns-in-AsChosen c = search (rules, because_steps)

pub returns-in-Lowered : goal.returns-in-Lowered
returns-in-Lowered c = search (rules, because_steps)

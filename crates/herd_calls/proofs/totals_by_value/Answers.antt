-- `herd_calls::totals_by_value` meets its contract: what the record's checks refuse, then what the writer says.
-- Assumes nothing.
use Rattle.contracts.proofs.RecordSteps.{totals_steps}
use borrow.Author.Rules.{rules}
use Rattle.base.proofs.SameRefused.{handed_on}
use Rattle.herd_calls.proofs.totals_by_value.Goals as goal

pub write_totals-requires : goal.write_totals-requires
write_totals-requires c = search (rules, totals_steps, c.in_ok-answer.was)

pub returns : goal.returns
returns c = search (rules, totals_steps, c.in_ok-answer.was)

pub returns-in_err-answer : goal.returns-in_err-answer
returns-in_err-answer c = search (rules, totals_steps, c.in_err-answer.was, handed_on c.from_residual.ensures)

-- What the call of `take_day` comes to, where `grind` does not see it. Assumes nothing.
use borrow.Author.Rules.{rules}
use Rattle.gate.proofs.LogSteps.{log_steps}
use Rattle.gate.proofs.logs.read_records.Goals as goal

pub returns-in-Err : goal.returns-in-Err
returns-in-Err c = search (rules, log_steps)

pub loop-f-preserved : goal.loop-f-preserved
loop-f-preserved c = search (rules, log_steps)

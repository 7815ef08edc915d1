-- `herd_reasons::told_of` meets its contract, by the kind. Assumes nothing.
use Rattle.herd_reasons.proofs.Steps.{kind_steps}
use borrow.Author.Rules.{rules}
use Rattle.herd_reasons.proofs.told_of.Goals as goal

pub why_of-requires : goal.why_of-requires
why_of-requires c = search (rules, kind_steps)

pub returns-in-Roughage : goal.returns-in-Roughage
returns-in-Roughage c = search (rules, kind_steps)

pub returns-in-Cattle : goal.returns-in-Cattle
returns-in-Cattle c = search (rules, kind_steps)

-- `herd_reasons::reason_of` meets its contract: the code's tests are the definition's, in its order. Assumes nothing.
use Rattle.herd_reasons.proofs.Steps.{reason_steps}
use borrow.Author.Rules.{rules}
use Rattle.herd_reasons.proofs.reason_of.Goals as goal

pub returns-then-days_with_grazing_and_yard-eq0 : goal.returns-then-days_with_grazing_and_yard-eq0
returns-then-days_with_grazing_and_yard-eq0 c = search (rules, reason_steps)

pub returns-then-is_not_available : goal.returns-then-is_not_available
returns-then-is_not_available c = search (rules, reason_steps)

pub returns-then-share_excretion-le-SHARE_PARTLY : goal.returns-then-share_excretion-le-SHARE_PARTLY
returns-then-share_excretion-le-SHARE_PARTLY c = search (rules, reason_steps)

pub returns-else-share_excretion-le-SHARE_PARTLY : goal.returns-else-share_excretion-le-SHARE_PARTLY
returns-else-share_excretion-le-SHARE_PARTLY c = search (rules, reason_steps)

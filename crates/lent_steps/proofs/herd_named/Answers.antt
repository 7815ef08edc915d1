-- `lent_steps::herd_named` meets its contract. Assumes nothing.
use borrow.Author.Rules.{rules}
use Rattle.lent_steps.proofs.Steps.{calling_steps}
use Rattle.lent_steps.proofs.herd_named.Goals as goal

pub returns : goal.returns
returns c = search (rules, calling_steps)

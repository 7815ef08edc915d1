-- `herd_reasons::why_of` meets its contract, part by part. Assumes nothing.
use Rattle.herd_reasons.proofs.Steps.{is-why}
use borrow.Author.Rules.{rules}
use Rattle.herd_reasons.proofs.why_of.Goals as goal

pub returns : goal.returns
returns c = search (rules, is-why)

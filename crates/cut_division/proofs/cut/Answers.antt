-- `cut_division::cut` meets its contract: quotient and remainder make up the dividend. Assumes nothing.
use borrow.Author.Rules.{rules}
use Rattle.cut_division.proofs.Quotients.{divides}
use Rattle.cut_division.proofs.cut.Goals as goal

pub returns : goal.returns
returns c = search (rules, divides)

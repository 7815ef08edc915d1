-- `herd_figures::cuts_of` meets its contract: the quotients of a herd's sections are its cuts. Assumes nothing.
use borrow.Author.Rules.{rules}
use Rattle.cuts.proofs.Agree.{cuts_are}
use Rattle.herd_figures.proofs.cuts_of.Goals as goal

pub returns : goal.returns
returns c = search (rules, cuts_are)

-- `herd_figures::figures` meets its contract: the grams of a herd's sections are its figures. Assumes nothing.
use borrow.Author.Rules.{rules}
use Rattle.herd.proofs.Agree.{kind_steps}
use Rattle.herd_figures.proofs.figures.Goals as goal

pub by_number-requires : goal.by_number-requires
by_number-requires c = search (rules, kind_steps)

pub returns : goal.returns
returns c = search (rules, kind_steps)

-- `values::is_standard` meets its contract: a text is `standard` where it is that word in any letter case, by
-- the word's bytes. Assumes nothing.
use borrow.Author.Rules.{rules}
use Rattle.values.specs.Values.{is_standard}
use Rattle.values.proofs.is_standard.Goals as goal

pub returns : goal.returns
unfolding is_standard
returns c = search rules

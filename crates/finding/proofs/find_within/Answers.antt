-- `finding::find_within` meets its contract: a slot more is looked at, and the last one ends the search. Assumes
-- nothing.
use borrow.Author.Rules.{rules}
use Rattle.finding.specs.Find.{find_within}
use Rattle.finding.proofs.Searches.{slot_steps}
use Rattle.finding.proofs.find_within.Goals as goal

pub loop-slot-init : goal.loop-slot-init
unfolding find_within
loop-slot-init c = search rules

pub returns-then-own-name : goal.returns-then-own-name
returns-then-own-name c = search (rules, slot_steps)

pub loop-slot-preserved : goal.loop-slot-preserved
loop-slot-preserved c = search (rules, slot_steps)

pub returns : goal.returns
returns c = search (rules, slot_steps)

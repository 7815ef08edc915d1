-- `places::read_at` meets its contract: what a record gives always has a slot, so what it does to the herd
-- may be asked. Assumes nothing.
use borrow.Author.Rules.{rules}
use Rattle.records.proofs.RecordReads.{entry-gives-slot}
use Rattle.places.proofs.PlaceSteps.{place_steps}
use Rattle.places.proofs.read_at.Goals as goal

pub effect_of-after-requires : goal.effect_of-after-requires
effect_of-after-requires c = search (rules, entry-gives-slot)

pub returns-in-End : goal.returns-in-End
returns-in-End c = search (rules, place_steps)

pub returns-in-Broken : goal.returns-in-Broken
returns-in-Broken c = search (rules, place_steps)

pub returns-in-Record : goal.returns-in-Record
returns-in-Record c = search (rules, place_steps)

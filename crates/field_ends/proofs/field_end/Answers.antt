-- `field_ends::field_end` meets its contract, by the field's first byte.
-- Assumes nothing.
use Rattle.field_ends.proofs.Scans.{field_steps}
use borrow.Author.Rules.{rules}
use Rattle.field_ends.proofs.field_end.Goals as goal
use Rattle.field_ends.proofs.field_end.Goals.{else-at-s-via-then-at-s+else-s-at-eq34, else-at-s-via-else-at-s}

pub returns-then-s-at-eq34 : goal.returns-then-s-at-eq34
returns-then-s-at-eq34 c = search (rules, field_steps)

pub returns-else-at-s : goal.returns-else-at-s
returns-else-at-s c = elim c.else-at-s.branch [
  | else-at-s-via-then-at-s+else-s-at-eq34 w ↦ search (rules, field_steps)
  | else-at-s-via-else-at-s w ↦ search (rules, field_steps)
]

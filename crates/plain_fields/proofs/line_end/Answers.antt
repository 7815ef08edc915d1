-- `plain_fields::line_end` meets its contract, by the byte past the CR.
-- Assumes nothing.
use Rattle.plain_fields.proofs.Scans.{line_steps}
use borrow.Author.Rules.{rules}
use Rattle.plain_fields.proofs.line_end.Goals as goal
use Rattle.plain_fields.proofs.line_end.Goals.{else-at-s-via-then-at-s+else-s-at-eq10, else-at-s-via-else-at-s}

pub returns-then-s-at-eq10 : goal.returns-then-s-at-eq10
returns-then-s-at-eq10 c = search (rules, line_steps)

pub returns-else-at-s : goal.returns-else-at-s
returns-else-at-s c = elim c.else-at-s.branch [
  | else-at-s-via-then-at-s+else-s-at-eq10 w ↦ search (rules, line_steps)
  | else-at-s-via-else-at-s w ↦ search (rules, line_steps)
]

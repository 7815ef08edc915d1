-- `streams::write_all` meets its contract, and ends: each turn goes further, or leaves less patience.
-- Assumes nothing.
use Prim.Native.Nat.{◌<◌, ◌≤◌}
use lib.ListN.{length}
use borrow.Author.Rules.{rules}
use Rattle.streams.specs.Within.{All}
use Rattle.streams.proofs.Moves.{left, turn_steps}
use Rattle.streams.proofs.write_all.Given as goal

abbrev pub invariant-loop-patience : goal.invariant-loop-patience
invariant-loop-patience g l = (0 < length l.text) × (l.done ≤ length l.text)

abbrev pub decreases-loop-patience : goal.decreases-loop-patience
decreases-loop-patience g l = left (length l.text) l.done l.patience

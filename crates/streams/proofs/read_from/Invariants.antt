-- `streams::read_from` meets its contract, and ends: each turn goes further, or leaves less patience.
-- Assumes nothing.
use Prim.Native.Nat.{◌≤◌}
use mathlib.Core.Path.{◌≡◌}
use lib.ListN.{length}
use borrow.Author.Rules.{rules}
use Rattle.streams.proofs.Moves.{left, turn_steps}
use Rattle.streams.proofs.read_from.Given as goal

abbrev pub invariant-loop-patience : goal.invariant-loop-patience
invariant-loop-patience g l = (length l.into ≡ length l.initial.into) × (l.done ≤ length l.into)

abbrev pub decreases-loop-patience : goal.decreases-loop-patience
decreases-loop-patience g l = left (length l.into) l.done l.patience

-- The loop keeps that the herds but for the one at i are those but for the one at the place. Assumes nothing.
use Rattle.book_herds.proofs.Steps.{Closing}
use Rattle.book_herds.proofs.removed_at.Given as goal

abbrev pub invariant-loop-i : goal.invariant-loop-i
invariant-loop-i l = Closing l.last l.place l.initial.herds l.herds l.i

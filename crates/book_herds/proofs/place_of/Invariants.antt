-- The loop keeps that the place among the herds from i on, with i added, is the place among all. Assumes nothing.
use Rattle.book_herds.proofs.Steps.{Looking}
use Rattle.book_herds.proofs.place_of.Given as goal

abbrev pub invariant-loop-i : goal.invariant-loop-i
invariant-loop-i l = Looking l.farm l.l l.i

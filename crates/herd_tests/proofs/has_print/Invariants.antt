-- The loop keeps that `any`, or one of the prints that are left being this one, is what one of all being this one is.
-- Assumes nothing.
use mathlib.Core.Path.{◌≡◌}
use mathlib.Core.Bool.{◌||◌}
use lib.ListN.{drop}
use Rattle.herd_tests.specs.Tests.{has_print}
use Rattle.herd_tests.proofs.has_print.Given as goal

abbrev pub invariant-loop-p : goal.invariant-loop-p
invariant-loop-p l = (l.any || has_print (drop l.p-index l.prints) l.print) ≡ has_print l.prints l.print

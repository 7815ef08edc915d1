-- The loop keeps that the print so far, with the bytes that are left, makes the label's. Assumes nothing.
use mathlib.Core.Path.{◌≡◌}
use lib.ListN.{drop}
use Rattle.farm.specs.Labels.{text}
use Rattle.farm.specs.Prints.{print_from, print_of}
use Rattle.farm.proofs.prints.print_of.Given as goal

abbrev pub invariant-loop-b : goal.invariant-loop-b
invariant-loop-b l = print_from l.print (drop l.b-index (text l.fn.l)) ≡ print_of l.fn.l

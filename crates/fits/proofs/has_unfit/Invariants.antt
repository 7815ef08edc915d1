-- The loop keeps that one of the inputs from i on does not fit exactly where one of all does not. Assumes nothing.
use mathlib.Core.Path.{◌≡◌}
use lib.ListN.{drop}
use Rattle.inputs.specs.Inputs.{rows_of}
use Rattle.fits.specs.Fits.{unfit_one, unfit}
use Rattle.fits.proofs.SlotSteps.{said_of}
use Rattle.fits.proofs.has_unfit.Given as goal

abbrev pub invariant-loop-i : goal.invariant-loop-i
invariant-loop-i l = unfit_one (drop l.i (rows_of l.fn.h.kind)) (drop l.i (said_of l.fn.h)) ≡ unfit l.fn.h

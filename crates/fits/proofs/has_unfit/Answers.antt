-- `fits::has_unfit` meets its contract: an input more is looked at, and the last one ends the search. Assumes nothing.
use borrow.Author.Rules.{rules}
use Rattle.farm.proofs.Left.{length_mapped}
use Rattle.fits.proofs.SlotSteps.{unfit_steps}
use Rattle.fits.proofs.has_unfit.Goals as goal

pub loop-i-init : goal.loop-i-init
loop-i-init c = search (rules, unfit_steps)

pub returns-then-not-fits_form : goal.returns-then-not-fits_form
returns-then-not-fits_form c = search (rules, unfit_steps, length_mapped)

pub loop-i-preserved : goal.loop-i-preserved
loop-i-preserved c = search (rules, unfit_steps, length_mapped)

pub returns : goal.returns
returns c = search (rules, unfit_steps, length_mapped)

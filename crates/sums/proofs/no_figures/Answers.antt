-- Zeros. Assumes nothing.
use mathlib.Core.Path.{refl}
use Rattle.outputs.specs.Grams.{by_number}
use Rattle.sums.proofs.no_figures.Goals as goal

pub returns : goal.returns
unfolding by_number
returns c = refl

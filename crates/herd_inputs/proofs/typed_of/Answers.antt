-- `herd_inputs::typed_of` meets its contract, by the kind.
-- Assumes nothing.
use Rattle.typed_inputs.specs.Typed.{typed_of}
use Rattle.herd_inputs.proofs.typed_of.Goals as goal

pub returns-in-Roughage : goal.returns-in-Roughage
unfolding typed_of
returns-in-Roughage c = rw (c.roughage_of.ensures, c.in-Roughage.is)

pub returns-in-Cattle : goal.returns-in-Cattle
unfolding typed_of
returns-in-Cattle c = rw (c.cattle_of.ensures, c.in-Cattle.is)

pub returns-in-Pigs : goal.returns-in-Pigs
unfolding typed_of
returns-in-Pigs c = rw (c.pigs_of.ensures, c.in-Pigs.is)

pub returns-in-DairyCow : goal.returns-in-DairyCow
unfolding typed_of
returns-in-DairyCow c = rw (c.cattle_of-in-DairyCow.ensures, c.in-DairyCow.is)

-- `kilograms::converted` meets its contract. The invariant: the kilograms of the first i grams are stored. Assumes
-- nothing.
use Rattle.outputs.proofs.Mapped.{Stored}
use Rattle.kilograms.specs.Kilograms.{in_kilograms}
use Rattle.kilograms.proofs.converted.Given as goal

abbrev pub invariant-loop-i : goal.invariant-loop-i
invariant-loop-i g l = Stored in_kilograms l.grams l.i l.kilograms

-- `csv_reader::ReaderPlace::next` meets its contract. The invariant: the fields from `at` on, after those in f, give
-- what is sought, and there are no more fields than bytes were passed; the measure is what is left of the file. Assumes
-- nothing.
use Prim.Native.Nat.{◌≤◌, ◌-◌}
use lib.ListN.{length}
use Rattle.csv_reader.specs.Places.{step_of}
use Rattle.csv_reader.proofs.Going.{Going}
use Rattle.csv_reader.proofs.ReaderPlace.next.Given as goal

abbrev pub invariant-loop-p : goal.invariant-loop-p
invariant-loop-p l = (l.at ≤ length l.s) × (l.f.count ≤ l.at) × Going l.s l.at l.f (step_of l.s l.initial.at)

abbrev pub decreases-loop-p : goal.decreases-loop-p
decreases-loop-p l = length l.s - l.at
